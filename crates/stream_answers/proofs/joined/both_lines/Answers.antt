-- `both_lines` meets its contract. Assumes nothing.
use borrow.Author.Rules.{rules}
use Rattle.print.proofs.Putting.{◌▸◌}
use Rattle.stream_answers.proofs.joined.both_lines.Goals as goal

pub returns : goal.returns
returns c =
    c.text-a.ensures
    ▸ c.hex_words-b.ensures
    ▸ c.text-c.ensures
    ▸ c.hex_halves-d.ensures
    ▸ c.byte.ensures
