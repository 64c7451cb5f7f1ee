-- `crc32::word` meets its contract: the low pair of bytes stands in the given row, and the high one four rows lower (`rows`).
-- Assumes nothing.
use mathlib.Core.Path.{ap₂, ◌∙◌}
use lib.Bits.{bit_xor}
use borrow.Author.Rules.{rules}
use Rattle.crc32.proofs.Shift.{rows}
use Rattle.crc32.proofs.word.Goals as goal

pub returns : goal.returns
returns c =
    let a = c.args in
    ap₂ bit_xor c.pair.ensures c.pair-2.ensures ∙ rows 4 a.row a.v (search rules)
