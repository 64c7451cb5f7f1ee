-- `crc32::one` meets its contract: of a number that is shifted by eight bits only the low eight bits are looked up (`low`).
-- Assumes nothing.
use mathlib.Core.Path.{ap, sym, ◌∙◌}
use Prim.Native.Nat.{◌/◌}
use lib.Bits.{bit_xor}
use Rattle.crc32.proofs.Shift.{low}
use Rattle.crc32.proofs.one.Goals as goal

pub returns : goal.returns
returns c =
    let a = c.args in
    let x = bit_xor a.c a.b in
    ap (λ y. bit_xor y (x / 256)) c.byte.ensures ∙ sym (low 8 x)
