-- The CRC over lists: over one list after another, and over the bytes of a list at once, as one number. By induction on the list,
-- from the laws of the shift. Assumes nothing.
use mathlib.Core.Path.{◌≡◌, refl, sym, ap, ap₂, ◌∙◌}
use mathlib.Core.List.{List, [], ◌∷◌, ◌++◌}
use Prim.Native.Nat.{ℕ, ◌+◌, ◌-◌, ◌*◌, ◌^◌, ◌<◌, ◌≤◌}
use native.Mathlib.Nat.{add_assoc}
use native.Mathlib.Numerals.{add-one}
use native.Mathlib.Omega.{arith}
use lib.Bits.{bit_xor, xor_comm, xor_zero_r, xor_shifted}
use lib.ListN.{length, get_or, take, drop, length-drop}
use lib.Seq.{length-take-le, take-add, take-length, drop-drop, drop-cons}
use Rattle.crc32.specs.Crc.{shift_bits, shift_byte, crc_over}
use Rattle.crc32.specs.Helpers.{little}
use Rattle.crc32.proofs.Xor.{xor_assoc}
use Rattle.crc32.proofs.Shift.{shift_bits_xor, shift_bits_add, shift_bits_high}

-- one list after another
pub crc_over_append : (c : ℕ) (a b : List ℕ) → crc_over c (a ++ b) ≡ crc_over (crc_over c a) b
unfolding crc_over
crc_over_append c [] b = refl
crc_over_append c (x ∷ a) b = crc_over_append (shift_byte c x) a b

-- the bytes of a list at once
pub at_once : (c : ℕ) (s : List ℕ) → crc_over c s ≡ shift_bits (8 * length s) (bit_xor c (little s))
unfolding crc_over little shift_bits
at_once c [] = sym (xor_zero_r c)
at_once c (b ∷ s) =
    let w = little s in
    let n = 8 * length s in
    let e : 8 + n ≡ 8 * length (b ∷ s) = omega arith in
    at_once (shift_byte c b) s
    ∙ ap (λ x. shift_bits n (bit_xor (shift_byte c b) x)) (sym (shift_bits_high 8 w))
    ∙ ap (shift_bits n) (sym (shift_bits_xor 8 (bit_xor c b) (w * 2 ^ 8)))
    ∙ sym (shift_bits_add 8 n (bit_xor (bit_xor c b) (w * 2 ^ 8)))
    ∙ ap₂ shift_bits e (xor_assoc c b (w * 2 ^ 8))

-- two lists at once: the first is shifted by the bits of both
pub both_at_once : (c : ℕ) (a b : List ℕ)
    → crc_over c (a ++ b) ≡ bit_xor (shift_bits (8 * length b) (little b)) (shift_bits (8 * length a + 8 * length b) (bit_xor c (little a)))
both_at_once c a b =
    let n = 8 * length b in
    crc_over_append c a b ∙ at_once (crc_over c a) b ∙ ap (shift_bits n) (xor_comm (crc_over c a) (little b))
    ∙ shift_bits_xor n (little b) (crc_over c a)
    ∙ ap (bit_xor (shift_bits n (little b)))
    (ap (shift_bits n) (at_once c a) ∙ sym (shift_bits_add (8 * length a) n (bit_xor c (little a))))

-- a byte lies below the number that the others are, so its xor is a sum
little_cons : (b : ℕ) (s : List ℕ) → b < 256 → little (b ∷ s) ≡ b + 256 * little s
unfolding little
little_cons b s h =
    let e : little s * 2 ^ 8 + b ≡ b + 256 * little s = omega arith in
    xor_comm b (little s * 2 ^ 8) ∙ xor_shifted (little s) 8 b h ∙ e

-- four bytes as a number
pub little_four : (a b c d : ℕ) → a < 256 → b < 256 → c < 256 → d < 256
    → a + 256 * b + 65536 * c + 0x1000000 * d ≡ little (a ∷ b ∷ c ∷ d ∷ [])
unfolding little
little_four a b c d ha hb hc hd =
    rw (little_cons a, little_cons b, little_cons c, little_cons d) (omega arith)

module _ (s : List ℕ) (i : ℕ) where
  -- the byte at a place, and what follows
  uncons : i < length s → drop i s ≡ get_or s i 0 ∷ drop (i + 1) s
  uncons h = rw (drop-cons s i 0, add-one)

  part_length : (m : ℕ) → i + m ≤ length s → length (take m (drop i s)) ≡ m
  part_length m h = length-take-le m (drop i s) (simp length-drop (omega arith))

  part_add : (m n : ℕ) → take (m + n) (drop i s) ≡ take m (drop i s) ++ take n (drop (i + m) s)
  part_add m n = take-add m n (drop i s) ∙ ap (λ x. take m (drop i s) ++ take n x) (drop-drop m i s)

  module _ (c : ℕ) where
    -- m bytes more
    pub more : (m : ℕ) → crc_over (crc_over c (take i s)) (take m (drop i s)) ≡ crc_over c (take (i + m) s)
    more m = sym (crc_over_append c (take i s) (take m (drop i s))) ∙ ap (crc_over c) (sym (take-add i m s))

    -- one byte more
    pub one_more : i < length s → shift_byte (crc_over c (take i s)) (get_or s i 0) ≡ crc_over c (take (i + 1) s)
    unfolding crc_over
    one_more h = rw (uncons h) at (more 1)

    -- all that is left
    pub all : i ≤ length s → crc_over (crc_over c (take i s)) (take (length s - i) (drop i s)) ≡ crc_over c s
    all h =
        let e : i + (length s - i) ≡ length s = omega arith in
        more (length s - i) ∙ ap (crc_over c) (ap (λ n. take n s) e ∙ take-length s)

-- four bytes of a list, one by one
pub four_at : (s : List ℕ) (i : ℕ) → i + 4 ≤ length s
    → get_or s i 0 ∷ get_or s (i + 1) 0 ∷ get_or s (i + 2) 0 ∷ get_or s (i + 3) 0 ∷ [] ≡ take 4 (drop i s)
four_at s i h =
    rw
    (uncons s i (omega arith), uncons s (i + 1) (omega arith), uncons s (i + 1 + 1) (omega arith), uncons s (i + 1 + 1 + 1) (omega arith))
    (simp add_assoc)

-- eight bytes of a list at once, as two numbers of four bytes
pub eight_at : (s : List ℕ) (i c : ℕ) → i + 8 ≤ length s
    → bit_xor (shift_bits 32 (little (take 4 (drop (i + 4) s)))) (shift_bits 64 (bit_xor c (little (take 4 (drop i s)))))
    ≡ crc_over c (take 8 (drop i s))
eight_at s i c h =
    let x = take 4 (drop i s) in
    let y = take 4 (drop (i + 4) s) in
    sym
    (ap (crc_over c) (part_add s i 4 4) ∙ both_at_once c x y
    ∙ ap₂ (λ m n. bit_xor (shift_bits (8 * n) (little y)) (shift_bits (8 * m + 8 * n) (bit_xor c (little x))))
    (part_length s i 4 (omega arith)) (part_length s (i + 4) 4 (omega arith)))
