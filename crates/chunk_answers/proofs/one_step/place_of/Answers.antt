-- `place_of` meets its contract. Assumes nothing.
use Rattle.std.proofs.Common.{eq-eqb, ne_eqb}
use Rattle.chunk_answers.proofs.one_step.place_of.Goals as goal

pub returns-then-stands-eq0 : goal.returns-then-stands-eq0
returns-then-stands-eq0 c = simp (eq-eqb _ _ c.if-stands-eq0.true)

pub returns-else-stands-eq0 : goal.returns-else-stands-eq0
returns-else-stands-eq0 c = simp (ne_eqb _ _ c.if-stands-eq0.false)
