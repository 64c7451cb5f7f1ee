-- Reads at a position: bytes, numbers, a SID, an array. Document 01, "Refusals and their places" and "Values"; the Rust, byte_cursor.rs.
use Rattle.std.specs.Prelude.{Bool, true, false, ◌&&◌, List, [], ◌∷◌, ℕ, ◌+◌, ◌*◌, ◌%◌, leb, eqb, length, take, drop, get_or}
use Rattle.cursor.specs.Answer.{Answer, given, refused, ◌then◌, pick}
use Rattle.cursor.specs.Refusals.{past_end, too_few, uneven_array}
use Rattle.cursor.specs.declared.Part.{Part}

-- n bytes stand in s from the position on
abbrev pub within : List ℕ → ℕ → ℕ → Bool
within s at n = leb (at + n) (length s)

-- the n bytes from the position on
abbrev pub bytes_of : List ℕ → ℕ → ℕ → List ℕ
bytes_of s at n = take n (drop at s)

-- "position set past the stream's end": 2 at "that position"; the end itself is allowed
abbrev pub set_to : List ℕ → ℕ → Answer Unit
set_to s to = pick (leb to (length s)) (given tt to) (refused past_end to)

-- one read of n bytes, which gives a; "too few bytes for a read": 3, "where the read starts"
abbrev pub read_of : {A : Type 0} → List ℕ → ℕ → ℕ → A → Answer A
read_of s at n a = pick (within s at n) (given a (at + n)) (refused too_few at)

-- "Little-endian": the first byte counts least
unfoldable pub little : List ℕ → ℕ
little [] = 0
little (b ∷ s) = b + 256 * little s

-- the number of the w bytes at a position; bytes past the end count as zeros
abbrev pub number_of : List ℕ → ℕ → ℕ → ℕ
number_of s at w = little (bytes_of s at w)

-- a read of a number of w bytes
abbrev pub number_at : List ℕ → ℕ → ℕ → Answer ℕ
number_at s at w = read_of s at w (number_of s at w)

-- the bytes of a magic stand at the beginning
unfoldable pub starts_with : List ℕ → List ℕ → Bool
starts_with t [] = true
starts_with [] (b ∷ m) = false
starts_with (a ∷ t) (b ∷ m) = eqb a b && starts_with t m

-- n bytes, as a part of the slice
abbrev pub take_at : List ℕ → ℕ → ℕ → Answer Part
take_at s at n = read_of s at n (record { start = at; len = n })

-- what a part is in a slice: its bytes, or none where it does not lie within
abbrev pub part_of : List ℕ → Part → List ℕ
part_of s p = pick (within s p.start p.len) (bytes_of s p.start p.len) []

-- the same part of a slice in which its own begins at `by`
abbrev pub part_moved : ℕ → Part → Part
part_moved by p = record { start = by + p.start; len = p.len }

-- "13 reads 8 + 4 × its byte 1"; the first 8 bytes are looked at first
abbrev pub sid_at : List ℕ → ℕ → Answer Part
sid_at s at = read_of s at 8 (get_or s (at + 1) 0) then λ groups _. take_at s at (8 + 4 * groups)

-- "arrays need the element width to divide s (checked before the bytes) and read s"; else 10 at "value's start".
-- As in the Rust, no bytes are no array of width 0's, and any others too few.
unfoldable pub array_at : List ℕ → ℕ → ℕ → ℕ → Answer Part
array_at s at width size =
    pick (eqb size 0) (take_at s at 0)
    (pick (eqb width 0) (refused too_few at)
    (pick (eqb (size % width) 0) (take_at s at size) (refused uneven_array at)))
