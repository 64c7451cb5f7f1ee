-- `line` meets its contract. Assumes nothing.
use borrow.Author.Rules.{rules}
use Rattle.print.proofs.Putting.{◌▸◌}
use Rattle.print.proofs.line.Goals as goal

pub returns : goal.returns
returns c =
    c.text-a.ensures
    ▸ c.numbers-b.ensures
    ▸ c.byte.ensures
