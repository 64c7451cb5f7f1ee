-- `rule` meets its contract. Assumes nothing.
use borrow.Author.Tests.{eq-eqb, ne_eqb}
use Rattle.merge_call.proofs.rule.Goals as goal

pub returns-then-newest-eq0 : goal.returns-then-newest-eq0
returns-then-newest-eq0 c = simp (eq-eqb _ _ c.if-newest-eq0.true)

pub returns : goal.returns
returns c = simp (ne_eqb _ _ c.if-newest-eq0.false)
