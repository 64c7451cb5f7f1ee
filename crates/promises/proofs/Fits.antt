-- What fits in an answer word: a position within the stream, or a refusal with a number below 2^7 and a place below 2^33,
-- since no position is set more than a number of four bytes past one in the stream. The laws of reads. Assumes nothing.
use mathlib.Core.List.{List, [], ◌∷◌}
use Prim.Native.Nat.{ℕ, zero, suc, ◌+◌, ◌^◌, ◌≤◌, ◌<◌}
use native.Mathlib.Nat.{pow-succ'}
use native.Mathlib.Omega.{arith}
use borrow.Author.Tests.{leb-true}
use lib.Dec.{leb}
use lib.ListN.{length, take, drop}
use Rattle.cursor.specs.Answer.{Answer, given, refused, ◌then◌}
use Rattle.cursor.specs.Reads.{within, little, number_of, read_of, number_at, set_to}
use Rattle.cursor.proofs.Choice.{either}
use Rattle.promises.specs.Packed.{Bytes}

-- a refusal's number and place
abbrev pub Small : ℕ → ℕ → Type 0
Small k p = (k < 2 ^ 7) × (p < 2 ^ 33)

abbrev pub Fits : {A : Type 0} → ℕ → Answer A → Type 0
Fits high (given a next) = next ≤ high
Fits high (refused k p) = Small k p

-- what was read, and then what comes after it
pub on : {A B : Type 0} (high : ℕ) (a : Answer A) (f : A → ℕ → Answer B) → Fits high a
    → ((x : A) (n : ℕ) → n ≤ high → Fits high (f x n)) → Fits high (a then f)
on high (given x n) f h g = g x n h
on high (refused k p) f h g = h

-- a number of w bytes, whether or not they are all there
dropped : (s : List ℕ) (n : ℕ) → Bytes s → Bytes (drop n s)
dropped s zero h = h
dropped [] (suc n) h = h
dropped (b ∷ s) (suc n) h = dropped s n (λ i. h (suc i))

little_below : (s : List ℕ) (w : ℕ) → Bytes s → little (take w s) < 256 ^ w
unfolding little
little_below s zero h = omega arith
little_below [] (suc w) h = rw pow-succ' (omega (arith, little_below [] w h))
little_below (b ∷ s) (suc w) h = rw pow-succ' (omega (arith, h 0, little_below s w (λ i. h (suc i))))

pub number_below : (s : List ℕ) (at w : ℕ) → Bytes s → number_of s at w < 256 ^ w
number_below s at w h = little_below (drop at s) w (dropped s at h)

-- a stream no longer than a chunk
module _ (s : List ℕ) (short : length s ≤ 65536) where
  pub read_fits : {A : Type 0} (at n : ℕ) (a : A) → at ≤ length s → Fits (length s) (read_of s at n a)
  read_fits at n a h =
      either (Fits (length s)) (within s at n) _ _ (λ w. leb-true (at + n) (length s) w) (λ w. (omega arith, omega arith))

  -- a position is set, and may be past the end
  pub set_fits : (to : ℕ) → to < 2 ^ 33 → Fits (length s) (set_to s to)
  set_fits to h = either (Fits (length s)) (leb to (length s)) _ _ (λ w. leb-true to (length s) w) (λ w. (omega arith, h))

  -- of bytes: a number, and then what comes after it; the number is as large as its bytes allow
  pub number_then : Bytes s → {B : Type 0} (at w : ℕ) (f : ℕ → ℕ → Answer B) → at ≤ length s
      → ((x : ℕ) (n : ℕ) → x < 256 ^ w → n ≤ length s → Fits (length s) (f x n)) → Fits (length s) (number_at s at w then f)
  number_then bytes at w f h g =
      either (λ a. Fits (length s) (a then f)) (within s at w) _ _
      (λ v. g (number_of s at w) (at + w) (number_below s at w bytes) (leb-true (at + w) (length s) v))
      (λ v. (omega arith, omega arith))
