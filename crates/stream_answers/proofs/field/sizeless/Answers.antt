-- `sizeless` meets its contract. Assumes nothing.
use borrow.Author.Rules.{rules}
use Rattle.print.proofs.Putting.{◌▸◌}
use Rattle.stream_answers.proofs.field.sizeless.Goals as goal

pub returns : goal.returns
returns c =
    c.code-a.ensures
    ▸ c.byte-b.ensures
    ▸ c.placed.ensures
