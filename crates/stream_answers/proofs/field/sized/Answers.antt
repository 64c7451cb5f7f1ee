-- `sized` meets its contract. Assumes nothing.
use borrow.Author.Rules.{rules}
use Rattle.print.proofs.Putting.{◌▸◌}
use Rattle.stream_answers.proofs.field.sized.Goals as goal

pub returns : goal.returns
returns c =
    c.code-a.ensures
    ▸ c.decimal-b.ensures
    ▸ c.placed.ensures
