-- `placed` meets its contract. Assumes nothing.
use borrow.Author.Rules.{rules}
use Rattle.print.proofs.Putting.{◌▸◌}
use Rattle.stream_answers.proofs.field.placed.Goals as goal

pub returns : goal.returns
returns c =
    c.byte-a.ensures
    ▸ c.decimal-b.ensures
    ▸ c.byte-c.ensures
    ▸ c.decimal-d.ensures
    ▸ c.byte-e.ensures
    ▸ c.content.ensures
