-- `hex_byte` meets its contract. Assumes nothing.
use borrow.Author.Rules.{rules}
use Rattle.print.proofs.Putting.{◌▸◌, byte_as}
use Rattle.print.proofs.hex_byte.Goals as goal

pub returns : goal.returns
returns c = byte_as c.digit.ensures c.byte-after.ensures ▸ byte_as c.digit-2.ensures c.byte.ensures
