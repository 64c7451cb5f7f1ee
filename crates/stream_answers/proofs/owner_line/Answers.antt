-- `owner_line` meets its contract. Assumes nothing.
use borrow.Author.Rules.{rules}
use Rattle.print.proofs.Putting.{◌▸◌}
use Rattle.stream_answers.proofs.owner_line.Goals as goal

pub returns : goal.returns
returns c =
    c.text-a.ensures
    ▸ c.halves-b.ensures
    ▸ c.byte.ensures
