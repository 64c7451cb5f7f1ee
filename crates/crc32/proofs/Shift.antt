-- The shift of the CRC, part by part: it is linear for xor, and bits that are 0 leave without a trace, so the low bits of a number
-- and the others are shifted apart. By induction on the number of bits. Assumes nothing.
use mathlib.Core.Path.{◌≡◌, refl, sym, ap, ap₂, ◌∙◌}
use Prim.Native.Nat.{ℕ, zero, suc, ◌+◌, ◌-◌, ◌*◌, ◌/◌, ◌%◌, ◌^◌, ◌≤◌}
use native.Mathlib.Nat.{mod-lt, zero-add, add-zero, suc-add}
use native.Mathlib.Omega.{arith}
use lib.Pow.{pow_pos, split}
use lib.Bits.{bit_xor, xor_comm, xor_shr, xor_mod, xor_shifted, shifted_half, shifted_even}
use Rattle.crc32.specs.Crc.{feedback, shift_bit, shift_bits}
use Rattle.crc32.proofs.Xor.{digit, xor_swap}

-- what two bits that leave add, they add together
feedback_xor : (x y : ℕ) → feedback (bit_xor (x % 2) (y % 2)) ≡ bit_xor (feedback (x % 2)) (feedback (y % 2))
unfolding feedback
feedback_xor x y =
    digit (λ a. feedback (bit_xor a (y % 2)) ≡ bit_xor (feedback a) (feedback (y % 2))) refl
    (digit (λ b. feedback (bit_xor 1 b) ≡ bit_xor (feedback 1) (feedback b)) refl refl y)
    x

shift_bit_xor : (x y : ℕ) → shift_bit (bit_xor x y) ≡ bit_xor (shift_bit x) (shift_bit y)
unfolding shift_bit
shift_bit_xor x y =
    ap₂ (λ p q. bit_xor (feedback p) q) (xor_mod x y 1) (xor_shr x y 1)
    ∙ ap (λ p. bit_xor p (bit_xor (x / 2) (y / 2))) (feedback_xor x y)
    ∙ xor_swap (feedback (x % 2)) (feedback (y % 2)) (x / 2) (y / 2)

-- the shift of a xor is the xor of the shifts
pub shift_bits_xor : (n x y : ℕ) → shift_bits n (bit_xor x y) ≡ bit_xor (shift_bits n x) (shift_bits n y)
unfolding shift_bits
shift_bits_xor zero x y = refl
shift_bits_xor (suc n) x y = ap (shift_bits n) (shift_bit_xor x y) ∙ shift_bits_xor n (shift_bit x) (shift_bit y)

-- some bits, and then some more
pub shift_bits_add : (n m x : ℕ) → shift_bits (n + m) x ≡ shift_bits m (shift_bits n x)
unfolding shift_bits
shift_bits_add zero m x = rw zero-add
shift_bits_add (suc n) m x = rw suc-add (shift_bits_add n m (shift_bit x))

-- bits that are all 0 leave without a trace
pub shift_bits_high : (n x : ℕ) → shift_bits n (x * 2 ^ n) ≡ x
unfolding shift_bits shift_bit feedback
shift_bits_high zero x = omega arith
shift_bits_high (suc n) x =
    ap₂ (λ p q. shift_bits n (bit_xor (feedback p) q)) (shifted_even x n) (shifted_half x n) ∙ shift_bits_high n x

-- the low n bits apart from the others, which the first n shifts only bring down
pub apart : (n m x : ℕ) → shift_bits (n + m) x ≡ bit_xor (shift_bits (n + m) (x % 2 ^ n)) (shift_bits m (x / 2 ^ n))
apart n m x =
    let h = x / 2 ^ n in
    let l = x % 2 ^ n in
    ap (shift_bits (n + m)) (sym (split x n) ∙ sym (xor_shifted h n l (mod-lt x (pow_pos n))) ∙ xor_comm (h * 2 ^ n) l)
    ∙ shift_bits_xor (n + m) l (h * 2 ^ n)
    ∙ ap (bit_xor (shift_bits (n + m) l)) (shift_bits_add n m (h * 2 ^ n) ∙ ap (shift_bits m) (shift_bits_high n h))

-- the same, shifted by n bits and no more
pub low : (n x : ℕ) → shift_bits n x ≡ bit_xor (shift_bits n (x % 2 ^ n)) (x / 2 ^ n)
unfolding shift_bits
low n x = rw add-zero at (apart n 0 x)

-- by rows of the table: the low q nibbles in this row, and the others in the row that stands q rows lower
pub rows : (q row x : ℕ) → q ≤ row
    → bit_xor (shift_bits (4 * (row + 1)) (x % 2 ^ (4 * q))) (shift_bits (4 * (row - q + 1)) (x / 2 ^ (4 * q))) ≡ shift_bits (4 * (row + 1)) x
rows q row x h =
    let e : 4 * (row + 1) ≡ 4 * q + 4 * (row - q + 1) = omega arith in
    rw e (sym (apart (4 * q) (4 * (row - q + 1)) x))
