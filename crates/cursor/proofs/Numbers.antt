-- Little-endian numbers: one fact over the width. Assumes nothing.
use mathlib.Core.Path.{◌≡◌, refl, ap, ◌∙◌}
use mathlib.Core.List.{List, [], ◌∷◌, ◌++◌}
use Prim.Native.Nat.{ℕ, zero, suc, ◌+◌, ◌*◌, ◌^◌, ◌≤◌, ◌<◌}
use native.Mathlib.Nat.{zero-add, suc-add, pow-succ'}
use native.Mathlib.Numerals.{add-one}
use native.Mathlib.Omega.{arith}
use lib.ListN.{length, take, drop, get_or, drop_of_length-le}
use lib.Seq.{drop-drop, drop-cons, take-nil}
use Rattle.cursor.specs.Reads.{little, number_of}

-- a list's first a bytes and the b after them, whether or not it has as many
little_add : (l : List ℕ) (a b : ℕ) → little (take (a + b) l) ≡ little (take a l) + 256 ^ a * little (take b (drop a l))
unfolding little
little_add l zero b = rw zero-add (omega arith)
little_add [] (suc a) b = rw (suc-add, take-nil b) (omega arith)
little_add (x ∷ l) (suc a) b = rw (suc-add, little_add l a b, pow-succ') (omega arith)

-- a number of a + b bytes is that of its first a, and 256 ^ a times that of the b after them; so too where bytes are missing
pub number_add : (s : List ℕ) (at a b : ℕ) → number_of s at (a + b) ≡ number_of s at a + 256 ^ a * number_of s (at + a) b
number_add s at a b = rw (← (drop-drop a at s)) (little_add (drop at s) a b)

-- a number of one byte is the byte
pub number_one : (s : List ℕ) (at : ℕ) → at < length s → number_of s at 1 ≡ get_or s at 0
unfolding little
number_one s at h = rw (drop-cons s at 0) (omega arith)

-- a number of more is its first byte, and 256 times the number of those after it
pub number_more : (s : List ℕ) (at next w : ℕ) → at < length s → next ≡ at + 1 → number_of s at (suc w) ≡ get_or s at 0 + 256 * number_of s next w
number_more s at next w h e = rw (e, ← (number_one s at h), suc_is w) (number_add s at 1 w)
  where
    suc_is : (n : ℕ) → suc n ≡ 1 + n
    suc_is n = omega arith

-- past the end there is no byte
pub number_none : (s : List ℕ) (at w : ℕ) → length s ≤ at → number_of s at w ≡ 0
unfolding little
number_none s at w h = rw (drop_of_length-le s h, take-nil w)

-- zeros behind a list's bytes change no number of it
zeros : ℕ → List ℕ
zeros zero = []
zeros (suc m) = 0 ∷ zeros m

of_zeros : (m n k : ℕ) → little (take k (drop n (zeros m))) ≡ 0
unfolding little zeros
of_zeros zero zero k = rw (take-nil k)
of_zeros zero (suc n) k = rw (take-nil k)
of_zeros (suc m) zero zero = refl
of_zeros (suc m) zero (suc k) = omega (arith, of_zeros m zero k)
of_zeros (suc m) (suc n) k = of_zeros m n k

before_zeros : (l z : List ℕ) (w : ℕ) → ((k : ℕ) → little (take k z) ≡ 0) → little (take w (l ++ z)) ≡ little (take w l)
unfolding little
before_zeros [] z w e = rw (take-nil w, e w)
before_zeros (x ∷ l) z zero e = refl
before_zeros (x ∷ l) z (suc w) e = rw (before_zeros l z w e)

pub number_filled : (l : List ℕ) (w : ℕ) → little (take w (l ++ drop (length l) (0 ∷ 0 ∷ 0 ∷ 0 ∷ 0 ∷ 0 ∷ 0 ∷ 0 ∷ []))) ≡ little (take w l)
unfolding zeros
number_filled l w = before_zeros l _ w (of_zeros 8 (length l))

-- of at most eight bytes, each or zero where there is none: no number of them is another one
pub number_each : (l : List ℕ) (w : ℕ) → length l ≤ 8
    → little (take w (get_or l 0 0 ∷ get_or l 1 0 ∷ get_or l 2 0 ∷ get_or l 3 0 ∷ get_or l 4 0 ∷ get_or l 5 0 ∷ get_or l 6 0 ∷ get_or l 7 0 ∷ [])) ≡ little (take w l)
number_each l w h = ap (λ (x : List ℕ). little (take w x)) (each l h) ∙ number_filled l w
  where
    each : (l : List ℕ) → length l ≤ 8 → get_or l 0 0 ∷ get_or l 1 0 ∷ get_or l 2 0 ∷ get_or l 3 0 ∷ get_or l 4 0 ∷ get_or l 5 0 ∷ get_or l 6 0 ∷ get_or l 7 0 ∷ [] ≡ l ++ drop (length l) (0 ∷ 0 ∷ 0 ∷ 0 ∷ 0 ∷ 0 ∷ 0 ∷ 0 ∷ [])
    each [] h = refl
    each (a ∷ []) h = refl
    each (a ∷ b ∷ []) h = refl
    each (a ∷ b ∷ c ∷ []) h = refl
    each (a ∷ b ∷ c ∷ d ∷ []) h = refl
    each (a ∷ b ∷ c ∷ d ∷ e ∷ []) h = refl
    each (a ∷ b ∷ c ∷ d ∷ e ∷ f ∷ []) h = refl
    each (a ∷ b ∷ c ∷ d ∷ e ∷ f ∷ g ∷ []) h = refl
    each (a ∷ b ∷ c ∷ d ∷ e ∷ f ∷ g ∷ i ∷ []) h = refl
    each (a ∷ b ∷ c ∷ d ∷ e ∷ f ∷ g ∷ i ∷ j ∷ l) h = absurd (omega arith)
