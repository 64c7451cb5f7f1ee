-- `words_line` meets its contract. Assumes nothing.
use Rattle.print.proofs.Putting.{◌▸◌}
use Rattle.merge_answers.proofs.words_line.Goals as goal

pub returns : goal.returns
returns c =
    c.text-a.ensures
    ▸ c.hex_words-b.ensures
    ▸ c.byte.ensures
