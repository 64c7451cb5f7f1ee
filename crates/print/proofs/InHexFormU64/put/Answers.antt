-- `put` meets its contract: a space, and the digits. Assumes nothing.
use Rattle.print.proofs.Putting.{◌▸◌}
use Rattle.print.proofs.InHexFormU64.put.Goals as goal

pub returns : goal.returns
returns c = c.byte-digits.ensures ▸ c.hex_word.ensures
