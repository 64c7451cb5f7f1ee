-- Laws of the bitwise xor that the library lacks: it is associative, and undoes itself. By induction on the binary digits; at a digit by cases.
-- Assumes nothing.
use mathlib.Core.Path.{◌≡◌, refl, sym, ap, ap₂, ◌∙◌}
use Prim.Native.Nat.{ℕ, zero, suc, ◌+◌, ◌*◌, ◌/◌, ◌%◌, ◌<◌}
use native.Mathlib.Nat.{mod-lt}
use native.Mathlib.Omega.{arith}
use lib.Arith.{bin_ind}
use lib.Bits.{bit_xor, differ, xor_step, xor_comm, xor_self, xor_zero_r, xor_shr, xor_mod}

-- what holds of 0 and of 1 holds of a lowest digit
pub digit : (P : ℕ → Type 0) → P 0 → P 1 → (n : ℕ) → P (n % 2)
digit P p q n = below (n % 2) (mod-lt n (omega arith))
  where
    below : (m : ℕ) → m < 2 → P m
    below zero h = p
    below (suc zero) h = q
    below (suc (suc m)) h = absurd (omega arith)

digit_assoc : (a b c : ℕ) → differ (bit_xor (a % 2) (b % 2)) (c % 2) ≡ differ (a % 2) (bit_xor (b % 2) (c % 2))
digit_assoc a b c =
    let z = c % 2 in
    digit (λ x. differ (bit_xor x (b % 2)) z ≡ differ x (bit_xor (b % 2) z))
    (digit (λ y. differ (bit_xor 0 y) z ≡ differ 0 (bit_xor y z)) refl (digit (λ w. differ 1 w ≡ bit_xor 1 w) refl refl c) b)
    (digit (λ y. differ (bit_xor 1 y) z ≡ differ 1 (bit_xor y z)) refl (digit (λ w. w ≡ differ 1 (bit_xor 1 w)) refl refl c) b)
    a

pub xor_assoc : (a b c : ℕ) → bit_xor (bit_xor a b) c ≡ bit_xor a (bit_xor b c)
xor_assoc a b c =
    bin_ind (λ n. (y z : ℕ) → bit_xor (bit_xor n y) z ≡ bit_xor n (bit_xor y z)) (λ y z. refl)
    (λ n ih y z.
    xor_step (bit_xor n y) z
    ∙ ap₂ (λ p q. bit_xor p (z / 2) * 2 + differ q (z % 2)) (xor_shr n y 1) (xor_mod n y 1)
    ∙ ap₂ (λ p q. p * 2 + q) (ih (y / 2) (z / 2)) (digit_assoc n y z)
    ∙ sym (ap₂ (λ p q. bit_xor (n / 2) p * 2 + differ (n % 2) q) (xor_shr y z 1) (xor_mod y z 1))
    ∙ sym (xor_step n (bit_xor y z)))
    a
    b
    c

-- four numbers, the inner two swapped
pub xor_swap : (a b c d : ℕ) → bit_xor (bit_xor a b) (bit_xor c d) ≡ bit_xor (bit_xor a c) (bit_xor b d)
xor_swap a b c d =
    xor_assoc a b (bit_xor c d)
    ∙ ap (bit_xor a) (sym (xor_assoc b c d) ∙ ap (λ x. bit_xor x d) (xor_comm b c) ∙ xor_assoc c b d)
    ∙ sym (xor_assoc a c (bit_xor b d))

-- the same number twice is nothing
pub xor_undo : (a m : ℕ) → bit_xor (bit_xor a m) m ≡ a
xor_undo a m = xor_assoc a m m ∙ ap (bit_xor a) (xor_self m) ∙ xor_zero_r a
