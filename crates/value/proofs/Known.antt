-- The type set is the known codes; each code is known and read with a size, or known and not read, or unknown. Assumes nothing.
use mathlib.Core.Path.{◌≡◌, refl}
use mathlib.Core.Bool.{Bool, ◌&&◌, ◌||◌, not}
use mathlib.Core.List.{[], ◌∷◌}
use Prim.Native.Nat.{ℕ, ◌<◌}
use native.Mathlib.Omega.{arith}
use lib.Dec.{eqb, ltb}
use Rattle.value.specs.Kinds.{among, codes, known_code, width_of, element_width_of}
use Rattle.value.specs.Value.{tells_length, takes_size}
use Rattle.value.proofs.Codes.{same_test}

-- the codes that `sized_in` reads
abbrev pub read_with_size : ℕ → Bool
read_with_size code = tells_length code || (eqb code 0x01 || (eqb code 0x10 || (ltb 0 (element_width_of code) || takes_size code)))

-- "20, 23, 90, 93: refusal 8": they are the known codes that are not read
pub all_but_four : (code : ℕ) → code < 256 → read_with_size code ≡ (known_code code && not (among code (0x20 ∷ 0x23 ∷ 0x90 ∷ 0x93 ∷ [])))
unfolding among known_code width_of
all_but_four code h =
    same_test read_with_size (λ k. known_code k && not (among k (0x20 ∷ 0x23 ∷ 0x90 ∷ 0x93 ∷ []))) 256 0 refl code (omega arith) (omega arith)

-- the type set holds exactly the known codes
pub exactly_known : (code : ℕ) → code < 256 → known_code code ≡ among code codes
unfolding among known_code
exactly_known code h = same_test known_code (λ k. among k codes) 256 0 refl code (omega arith) (omega arith)
