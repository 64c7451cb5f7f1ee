-- `crc32::crc32_on` meets its contract. The table that it lends keeps the rule: antt computes each of its 256 entries from the polynomial.
-- Assumes nothing.
use mathlib.Core.Path.{◌≡◌, ap, ap₂}
use Prim.Native.Nat.{ℕ, ◌+◌, ◌*◌, ◌/◌, ◌%◌, ◌<◌}
use native.Mathlib.Omega.{arith}
use lib.Bits.{bit_xor}
use Rattle.crc32.specs.Crc.{all_ones, feedback, shift_bit, shift_bits}
use Rattle.crc32.proofs.Table.{rule}
use Rattle.crc32.proofs.crc32_on.Goals as goal

-- what has to stand at a place of the table

entry : ℕ → ℕ
entry i = shift_bits (4 * (i / 16 + 1)) (i % 16)

pub over-requires : goal.over-requires
unfolding entry shift_bits shift_bit feedback
over-requires c = λ row k hr hk.
    let r : (16 * row + k) / 16 ≡ row = omega arith in
    let n : (16 * row + k) % 16 ≡ k = omega arith in
    let h : 16 * row + k < 256 = omega arith in
    rw (rule entry) (ap₂ (λ x y. shift_bits (4 * (x + 1)) y) r n)

pub returns : goal.returns
returns c = ap (λ x. bit_xor x all_ones) c.over.ensures
