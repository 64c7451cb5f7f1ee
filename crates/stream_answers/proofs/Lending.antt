-- Lent words that are all the same, and a flag as a number. Assumes nothing.
use Rattle.std.specs.Prelude.{min}
use mathlib.Core.Path.{◌≡◌, refl, sym, ap, ◌∙◌}
use mathlib.Core.Bool.{Bool, true, false}
use mathlib.Core.List.{List, [], ◌∷◌}
use Prim.Native.Nat.{ℕ, zero, suc, ◌≤◌, ◌<◌}
use native.Mathlib.Omega.{arith}
use native.Mathlib.Decide.{dec_lt}
use borrow.Author.Tests.{le-leb, lt-leb}
use lib.Dec.{leb}
use lib.ListN.{length, take, drop, replicate}
use lib.Seq.{take_all}
use Rattle.cursor.specs.Answer.{pick}
use mir.Val.{bool_byte}
use Rattle.tokens.specs.declared.Flags.{Flags}
use Rattle.doortumble.specs.Calls.{flag_of, flags_of}

take_less : (x k n : ℕ) → k ≤ n → take k (replicate n x) ≡ replicate k x
take_less x zero n h = refl
take_less x (suc k) zero h = absurd (omega arith)
take_less x (suc k) (suc n) h = ap (λ (l : List ℕ). x ∷ l) (take_less x k n (omega arith))

take_more : (x k n : ℕ) → n < k → take k (replicate n x) ≡ replicate n x
take_more x zero n h = absurd (omega arith)
take_more x (suc k) zero h = refl
take_more x (suc k) (suc n) h = ap (λ (l : List ℕ). x ∷ l) (take_more x k n (omega arith))

-- the first of words that are all the same
pub take_replicate : (x k n : ℕ) → take k (replicate n x) ≡ replicate (pick (leb k n) k n) x
take_replicate x k n =
    elim (dec_lt n k) [
      | yes l ↦ rw (lt-leb k n l) (take_more x k n l)
      | no l ↦ rw (le-leb k n (omega arith)) (take_less x k n (omega arith))
    ]

-- the first of words that are there, or all of them
pub take_upto : (l : List ℕ) (n k room : ℕ) → n ≡ min k (length l) → k ≡ room → take n l ≡ take room l
take_upto l n k room e h =
    elim (dec_lt (length l) k) [
      | yes g ↦ take_all n l (omega (arith, e, g)) ∙ sym (take_all room l (omega (arith, g, h)))
      | no g ↦
          let m : n ≡ k = omega (arith, e, g) in
          ap (λ (i : ℕ). take i l) (m ∙ h)
    ]

-- past the last
pub drop_short : (n : ℕ) (l : List ℕ) → length l ≤ n → drop n l ≡ []
drop_short zero [] h = refl
drop_short zero (x ∷ l) h = absurd (omega arith)
drop_short (suc n) [] h = refl
drop_short (suc n) (x ∷ l) h = drop_short n l (omega arith)

pub drop_upto : (l : List ℕ) (n k : ℕ) → n ≡ min k (length l) → drop n l ≡ drop k l
drop_upto l n k e =
    elim (dec_lt (length l) k) [
      | yes g ↦ drop_short n l (omega (arith, e, g)) ∙ sym (drop_short k l (omega (arith, g)))
      | no g ↦
          let m : n ≡ k = omega (arith, e, g) in
          ap (λ (i : ℕ). drop i l) m
    ]

-- a flag as a number, and back
bit_back : (b : Bool) → flag_of (bool_byte b) ≡ b
bit_back true = refl
bit_back false = refl

pub flags_back : (f : Flags) → flags_of (bool_byte f.dependencies) (bool_byte f.inline) ≡ f
flags_back f = λ i. record { dependencies = bit_back f.dependencies i; inline = bit_back f.inline i }
