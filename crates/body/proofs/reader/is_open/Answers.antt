-- `is_open` meets its contract. Assumes nothing.
use mathlib.Core.Path.{◌∙◌}
use borrow.Author.Tests.{eq-eqb}
use Rattle.body.proofs.Walking.{open_plain, open_announcing}
use Rattle.body.proofs.reader.is_open.Goals as goal

pub returns-then-mark-eq-OPEN : goal.returns-then-mark-eq-OPEN
returns-then-mark-eq-OPEN c = eq-eqb _ _ c.if-mark-eq-OPEN.true ∙ open_plain _ c.if-mark-eq-OPEN.true

pub returns-else-mark-eq-OPEN : goal.returns-else-mark-eq-OPEN
returns-else-mark-eq-OPEN c = open_announcing _ _ c.if-mark-eq-OPEN.false c.is_announcing.ensures
