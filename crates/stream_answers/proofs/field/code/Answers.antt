-- `code` meets its contract. Assumes nothing.
use borrow.Author.Rules.{rules}
use Rattle.print.proofs.Putting.{◌▸◌}
use Rattle.stream_answers.proofs.field.code.Goals as goal

pub returns : goal.returns
returns c =
    c.byte-a.ensures
    ▸ c.hex_byte-b.ensures
    ▸ c.byte.ensures
