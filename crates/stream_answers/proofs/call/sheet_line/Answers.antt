-- `sheet_line` meets its contract. Assumes nothing.
use borrow.Author.Rules.{rules}
use Rattle.print.proofs.Putting.{◌▸◌}
use Rattle.stream_answers.proofs.call.sheet_line.Goals as goal

pub returns : goal.returns
returns c =
    c.text-a.ensures
    ▸ c.hex_words-b.ensures
    ▸ c.byte.ensures
