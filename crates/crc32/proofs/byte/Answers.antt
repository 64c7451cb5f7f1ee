-- `crc32::byte` meets its contract: the low nibble stands in the given row, and the high one a row lower (`rows`).
-- Assumes nothing.
use mathlib.Core.Path.{ap₂, ◌∙◌}
use lib.Bits.{bit_xor}
use borrow.Author.Rules.{rules}
use Rattle.crc32.proofs.Shift.{rows}
use Rattle.crc32.proofs.byte.Goals as goal

pub returns : goal.returns
returns c =
    let a = c.args in
    ap₂ bit_xor c.nibble.ensures c.nibble-2.ensures ∙ rows 1 a.row a.v (search rules)
