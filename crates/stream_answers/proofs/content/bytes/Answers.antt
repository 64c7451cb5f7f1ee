-- `bytes` meets its contract. Assumes nothing.
use borrow.Author.Rules.{rules}
use Rattle.print.proofs.Putting.{◌▸◌}
use Rattle.stream_answers.proofs.content.bytes.Goals as goal

pub returns : goal.returns
returns c =
    c.byte-after.ensures
    ▸ c.hex.ensures
