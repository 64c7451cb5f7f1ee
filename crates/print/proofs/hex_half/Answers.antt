-- `hex_half` meets its contract. Assumes nothing.
use borrow.Author.Rules.{rules}
use Rattle.print.proofs.Putting.{◌▸◌}
use Rattle.print.proofs.hex_half.Goals as goal

pub returns : goal.returns
returns c =
    c.hex_byte-a.ensures
    ▸ c.hex_byte-b.ensures
    ▸ c.hex_byte-c.ensures
    ▸ c.hex_byte.ensures
