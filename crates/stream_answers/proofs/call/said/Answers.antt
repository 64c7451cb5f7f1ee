-- `said` meets its contract. Assumes nothing.
use borrow.Author.Rules.{rules}
use Rattle.print.proofs.Putting.{◌▸◌}
use Rattle.stream_answers.specs.Modes.{answer_text}
use Rattle.stream_answers.proofs.call.said.Goals as goal

pub returns : goal.returns
unfolding answer_text
returns c =
    c.text-a.ensures
    ▸ c.hex_word-b.ensures
    ▸ c.byte.ensures
