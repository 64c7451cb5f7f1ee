-- `crc32::pair` meets its contract: the low byte stands in the given row, and the high one two rows lower (`rows`).
-- Assumes nothing.
use mathlib.Core.Path.{ap₂, ◌∙◌}
use lib.Bits.{bit_xor}
use borrow.Author.Rules.{rules}
use Rattle.crc32.proofs.Shift.{rows}
use Rattle.crc32.proofs.pair.Goals as goal

pub returns : goal.returns
returns c =
    let a = c.args in
    ap₂ bit_xor c.byte.ensures c.byte-2.ensures ∙ rows 2 a.row a.v (search rules)
