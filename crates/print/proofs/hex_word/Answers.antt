-- `hex_word` meets its contract. Assumes nothing.
use borrow.Author.Rules.{rules}
use Rattle.print.proofs.Putting.{◌▸◌}
use Rattle.print.proofs.hex_word.Goals as goal

pub returns : goal.returns
returns c =
    c.hex_half-a.ensures
    ▸ c.hex_half.ensures
