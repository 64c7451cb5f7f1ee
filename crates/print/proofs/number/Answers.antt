-- `number` meets its contract. Assumes nothing.
use borrow.Author.Rules.{rules}
use Rattle.print.proofs.Putting.{◌▸◌}
use Rattle.print.proofs.number.Goals as goal

pub returns : goal.returns
returns c =
    c.byte-after.ensures
    ▸ c.decimal.ensures
