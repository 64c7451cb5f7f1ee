-- A read of the cursor never goes back, and ends within the stream. Assumes nothing.
use mathlib.Core.List.{List}
use Prim.Native.Nat.{ℕ, ◌+◌, ◌*◌, ◌≤◌}
use native.Mathlib.Omega.{arith}
use borrow.Author.Tests.{leb-true}
use lib.ListN.{length}
use Rattle.cursor.specs.Answer.{Answer, given, refused, ◌then◌}
use Rattle.cursor.specs.Reads.{within, bytes_of, read_of}
use Rattle.cursor.specs.Text.{units_of, counted_at, view_of}
use Rattle.cursor.proofs.Choice.{either}

-- what was read ends between the two positions
abbrev pub Between : {A : Type 0} → ℕ → ℕ → Answer A → Type 0
Between low high (given a next) = (low ≤ next) × (next ≤ high)
Between low high (refused k p) = Unit {0}

-- a read of n bytes in a stream
pub read_between : {A : Type 0} (s : List ℕ) (at n : ℕ) (a : A) → Between at (length s) (read_of s at n a)
read_between s at n a =
    either (Between at (length s)) (within s at n) _ _ (λ w. (omega arith, leb-true (at + n) (length s) w)) (λ w. tt {0})

pub counted_between : (s : List ℕ) (at n : ℕ) → Between at (length s) (counted_at s at n)
counted_between s at n =
    either (λ x. Between at (length s) (x then λ _ next. given (view_of at (units_of (bytes_of s at (2 * n)))) next)) (within s at (2 * n)) _ _
    (λ w. (omega arith, leb-true (at + 2 * n) (length s) w))
    (λ w. tt {0})
