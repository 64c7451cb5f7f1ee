-- The rule of a table, proved at all of its entries by one test that antt computes: an entry is what a function says of its place.
-- Assumes nothing.
use mathlib.Core.Path.{◌≡◌, ◌∙◌, ap, sym}
use mathlib.Core.Bool.{Bool, true, false}
use mathlib.Core.List.{List, [], ◌∷◌}
use Prim.Native.Nat.{ℕ, zero, suc, ◌+◌, ◌<◌}
use native.Mathlib.Nat.{add-zero, zero-add, add-suc, suc-add, le_of_suc-le-suc, not-suc-le-zero}
use lib.Dec.{T, eqb, eqb→eq}
use lib.ListN.{length, get_or}

-- both tests hold
abbrev and : Bool → Bool → Bool
and true b = b
and false b = false

and_left : (a b : Bool) → T (and a b) → T a
and_left true b t = tt
and_left false b t = t

and_right : (a b : Bool) → T (and a b) → T b
and_right true b t = t
and_right false b t = absurd t

module _ (f : ℕ → ℕ) where
  -- each entry of the list is f of its place, counted from i
  abbrev pub each : ℕ → List ℕ → Bool
  each i [] = true
  each i (x ∷ xs) = and (eqb x (f i)) (each (suc i) xs)

  from : (xs : List ℕ) (i : ℕ) → T (each i xs) → (k : ℕ) → k < length xs → get_or xs k 0 ≡ f (i + k)
  from [] i t k h = absurd (not-suc-le-zero h)
  from (x ∷ xs) i t zero h = eqb→eq x (f i) (and_left (eqb x (f i)) (each (suc i) xs) t) ∙ ap f (sym (add-zero i))
  from (x ∷ xs) i t (suc k) h =
      from xs (suc i) (and_right (eqb x (f i)) (each (suc i) xs) t) k (le_of_suc-le-suc h)
      ∙ ap f (suc-add i k ∙ sym (add-suc i k))

  -- the test holds of the whole list, so each place keeps the rule
  pub rule : (xs : List ℕ) → T (each 0 xs) → (k : ℕ) → k < length xs → get_or xs k 0 ≡ f k
  rule xs t k h = from xs 0 t k h ∙ ap f (zero-add k)
