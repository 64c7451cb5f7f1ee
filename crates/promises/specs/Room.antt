-- The room that the program `listing` has for a listing: the buffer of its `main`.
use Rattle.std.specs.Prelude.{◌≡◌, List, ◌++◌, ℕ, ◌+◌, length, take, drop}
use Rattle.listing_text.specs.Listing.{Listed}

abbrev pub program_buffer : ℕ
program_buffer = 262144

-- the listing of s stands whole in the buffer, from `at` up to `end`, and all else is as it was
pub record StandsWhole (s lent : List ℕ) (at : ℕ) (left : List ℕ) (end : ℕ) : Type 0 where
  pub text : List ℕ
  pub listed : Listed s text
  pub ends : end ≡ at + length text
  pub stands : left ≡ take at lent ++ text ++ drop (at + length text) lent
