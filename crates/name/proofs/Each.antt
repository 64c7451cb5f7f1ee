-- Units that are read one by one: all are there, or the first that is cut is refused. Assumes nothing.
use Rattle.std.proofs.Common.{◌≡◌, ℕ, zero, suc, ◌+◌, ◌-◌, ◌*◌, ◌/◌, ◌<◌, ◌≤◌, List, ◌∷◌, length, get_or, drop, ap, ◌∙◌, add-zero, arith, drop-cons, le-leb}
use native.Mathlib.Decide.{dec_le}
use borrow.Author.Tests.{lt-leb}
use Rattle.cursor.specs.Answer.{given, refused}
use Rattle.cursor.specs.Reads.{little, bytes_of}
use Rattle.cursor.specs.Text.{units_of}
use Rattle.name.specs.Name.{units_at}
use Rattle.name.specs.Pieces.{after_count}

two_bytes : (s : List ℕ) (at : ℕ) → at + 2 ≤ length s → drop at s ≡ get_or s at 0 ∷ (get_or s (suc at) 0 ∷ drop (at + 2) s)
two_bytes s at h =
    let e : suc (suc at) ≡ at + 2 = omega arith in
    drop-cons s at 0 (omega arith)
    ∙ ap (λ (r : List ℕ). get_or s at 0 ∷ r) (drop-cons s (suc at) 0 (omega arith) ∙ ap (λ (m : ℕ). get_or s (suc at) 0 ∷ drop m s) e)

-- the first of the units of a part, and the rest
first : (s : List ℕ) (at n : ℕ) → at + 2 ≤ length s
    → units_of (bytes_of s at (2 * suc n)) ≡ little (bytes_of s at 2) ∷ units_of (bytes_of s (at + 2) (2 * n))
unfolding units_of little
first s at n h =
    let e : 2 * suc n ≡ suc (suc (2 * n)) = omega arith in
    rw (e, two_bytes s at h, add-zero)

pub all_there : (s : List ℕ) (n at : ℕ) → at + 2 * n ≤ length s → units_at s at n ≡ given (units_of (bytes_of s at (2 * n))) (at + 2 * n)
unfolding units_at units_of
all_there s zero at h = rw add-zero
all_there s (suc n) at h =
    let k : at + 2 + 2 * n ≤ length s = omega arith in
    let e : at + 2 + 2 * n ≡ at + 2 * suc n = omega arith in
    rw (le-leb (at + 2) (length s) (omega arith), all_there s n (at + 2) k, first s at n (omega arith), e)

pub one_cut : (s : List ℕ) (n at : ℕ) → at ≤ length s → (length s - at) / 2 < n → units_at s at n ≡ refused 3 (at + 2 * ((length s - at) / 2))
unfolding units_at
one_cut s zero at l h = absurd (omega arith)
one_cut s (suc n) at l h =
    elim (dec_le (at + 2) (length s)) [
      | yes k ↦
          let e : at + 2 + 2 * ((length s - (at + 2)) / 2) ≡ at + 2 * ((length s - at) / 2) = omega arith in
          rw (le-leb (at + 2) (length s) k, one_cut s n (at + 2) k (omega arith), e)
      | no k ↦
          let e : at + 2 * ((length s - at) / 2) ≡ at = omega arith in
          rw (lt-leb (at + 2) (length s) (omega arith), e)
    ]

-- from a position past the end, whatever the count
pub past_end : (s : List ℕ) (n at start stored : ℕ) → length s < at → refused 3 at ≡ after_count s start stored n at
unfolding units_at
past_end s zero at start stored h = rw (lt-leb (at + 2) (length s) (omega arith))
past_end s (suc n) at start stored h = rw (lt-leb (at + 2) (length s) (omega arith))
