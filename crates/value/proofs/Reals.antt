-- A real by its bits, one law for both formats. Assumes nothing.
use mathlib.Core.Path.{◌≡◌, refl, sym, subst, ◌∙◌}
use mathlib.Core.Bool.{true, false, not, false≢true}
use mathlib.Core.List.{List, [], ◌∷◌}
use Prim.Native.Nat.{ℕ, zero, suc, ◌*◌, ◌%◌, ◌^◌, ◌≤◌, ◌<◌}
use native.Mathlib.Nat.{pow-succ'}
use native.Mathlib.Omega.{arith}
use borrow.Author.Tests.{lt-ltb, le-ltb, eqb-true}
use lib.Dec.{T, eqb}
use lib.Ieee.{Float, nan, inf, fin, Format, binary32, binary64, ones, hid, top, is_nan, nan_bits, of_bits, to_bits}
use lib.Ieee.Bits.{nan_bits_is, nan_bits_above, to_bits-of_bits}
use lib.ListN.{take, get_or}
use Rattle.cursor.specs.Reads.{little, number_of}
use Rattle.cursor.proofs.Choice.{either}
use Rattle.value.specs.Kinds.{among, width_of}
use Rattle.value.specs.Scalar.{bits_of, real_of, unsigned_of, decoded_of, HasBits, KeepsBits}
use Rattle.value.specs.declared.Scalar.TheVariants.{Single, Double}

only_nan : (v : Float) → is_nan v ≡ true → v ≡ nan
unfolding is_nan
only_nan nan e = refl
only_nan (inf s) e = absurd (false≢true e)
only_nan (fin s m x) e = absurd (false≢true e)

-- with the sign taken off, a NaN's bits are above an infinity's
pub a_nan : (f : Format) (n : ℕ) → ones f * hid f < n % top f → nan ≡ of_bits f n
a_nan f n h = sym (only_nan (of_bits f n) (sym (nan_bits_is f n) ∙ nan_bits_above f n ∙ lt-ltb (ones f * hid f) (n % top f) h))

pub no_nan : (f : Format) (n : ℕ) → n % top f ≤ ones f * hid f → T (not (nan_bits f n))
no_nan f n h = rw (nan_bits_above f n, le-ltb (ones f * hid f) (n % top f) h) tt

-- bytes make a number below 256 to the power of their count
little_below : (w : ℕ) (l : List ℕ) → ((k : ℕ) → get_or l k 0 < 256) → little (take w l) < 256 ^ w
unfolding little
little_below zero l h = omega arith
little_below (suc w) [] h = rw pow-succ' (omega (arith, little_below w [] h))
little_below (suc w) (x ∷ l) h =
    let a : x < 256 = h 0 in
    rw pow-succ' (omega (arith, little_below w l (λ k. h (suc k))))

stored : (f : Format) (n : ℕ) → n < 2 * top f → is_nan (of_bits f n) ≡ false → to_bits f (of_bits f n) ≡ n
stored f n h e = to_bits-of_bits f n h (rw e tt)

-- what is decoded from bytes keeps their bits
pub keeps_bits : (code : ℕ) (bytes : List ℕ) → ((k : ℕ) → get_or bytes k 0 < 256) → KeepsBits (decoded_of code bytes)
unfolding decoded_of unsigned_of real_of among width_of bits_of
keeps_bits code bytes h =
    either KeepsBits (among code (0x03 ∷ 0x05 ∷ 0x07 ∷ 0x09 ∷ [])) _ _ (λ a. tt {0})
    (λ a. either KeepsBits (among code (0x04 ∷ 0x06 ∷ 0x08 ∷ 0x0A ∷ 0x0D ∷ 0x10 ∷ 0x11 ∷ 0x14 ∷ 0x15 ∷ [])) _ _ (λ b. refl)
    (λ b. either KeepsBits (eqb code 0x0B) _ _
    (λ e. subst (λ (c : ℕ). HasBits (bits_of c bytes) (Single (of_bits binary32 (bits_of c bytes)))) (sym (eqb-true code 0x0B e)) (stored binary32 (number_of bytes 0 4) (little_below 4 bytes h)))
    (λ d. either KeepsBits (eqb code 0x0C) _ _
    (λ e. subst (λ (c : ℕ). HasBits (bits_of c bytes) (Double (of_bits binary64 (bits_of c bytes)))) (sym (eqb-true code 0x0C e)) (stored binary64 (number_of bytes 0 8) (little_below 8 bytes h)))
    (λ e. tt {0}))))
