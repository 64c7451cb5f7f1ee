-- The bytes of a magic at the beginning of a list. Assumes nothing.
use mathlib.Core.Path.{◌≡◌, refl}
use mathlib.Core.Bool.{Bool, true, false, ◌&&◌}
use mathlib.Core.List.{List, [], ◌∷◌}
use Prim.Native.Nat.{ℕ, ◌<◌}
use native.Mathlib.Omega.{arith}
use lib.Dec.{eqb}
use lib.ListN.{length, take}
use Rattle.std.specs.Cmp.Lexicographic.{pointwise}
use Rattle.std.proofs.lemmas.Bool.Decides.{nat_tests}
use Rattle.cursor.specs.Reads.{starts_with}

and_false : (b : Bool) → b && false ≡ false
and_false true = refl
and_false false = refl

-- a magic that is longer than the list
pub too_long : (t m : List ℕ) → length t < length m → starts_with t m ≡ false
unfolding starts_with
too_long t [] h = absurd (omega arith)
too_long [] (b ∷ m) h = refl
too_long (a ∷ t) (b ∷ m) h = rw (too_long t m (omega arith)) (and_false (eqb a b))

eqb_turned : (a b : ℕ) → eqb a b ≡ eqb b a
eqb_turned a b = grind (arith, nat_tests)

-- std's comparison of the first bytes
pub prefix : (t m : List ℕ) → pointwise eqb m (take (length m) t) ≡ starts_with t m
unfolding starts_with
prefix t [] = refl
prefix [] (b ∷ m) = refl
prefix (a ∷ t) (b ∷ m) = rw (eqb_turned b a, prefix t m)
