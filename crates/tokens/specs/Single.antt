-- A single instance's stream. Document 01, "Token walk"; the Rust, `single_instance_offset` and `ends_stream`.
use Rattle.std.specs.Prelude.{Option, Some, None}
use Rattle.std.specs.Prelude.{Bool, ◌&&◌, ◌||◌, List, ℕ, eqb, leb, length}
use Rattle.cursor.specs.Answer.{pick, Maybe, just, nothing}
use Rattle.cursor.specs.Reads.{number_of}

-- "offset 1", "offset 5", or none
abbrev pub single_answer : Option ℕ → Maybe ℕ
single_answer (Some offset) = just offset
single_answer None = nothing

-- "A stream is a single instance if it begins with 0C (offset 1), or with 0F, three bytes, 0C and one byte more (offset 5)."
-- (A byte past the end counts as a zero, which neither is.)
unfoldable pub single_of : List ℕ → Maybe ℕ
single_of s =
    pick (eqb (number_of s 0 1) 0x0C) (just 1)
    (pick (leb 6 (length s) && (eqb (number_of s 0 1) 0x0F && eqb (number_of s 4 1) 0x0C)) (just 5) nothing)

-- yes, no, or none where it was read past the end
abbrev pub ends_answer : Option Bool → Maybe Bool
ends_answer (Some b) = just b
ends_answer None = nothing

-- as in the Rust: a stream ends where nothing is left of it or a byte 00 follows; past its end it is not told
unfoldable pub ends_of : List ℕ → ℕ → Maybe Bool
ends_of s consumed =
    pick (leb consumed (length s)) (just (eqb (length s) consumed || eqb (number_of s consumed 1) 0)) nothing
