-- The C calls' flags and answer word. Document 01, "Sheet and C calls".
use Rattle.std.specs.Prelude.{◌≡◌, Bool, not, List, ℕ, ◌+◌, ◌*◌, ◌%◌, ◌^◌, eqb}
use Rattle.cursor.specs.Answer.{Result, gives, refuses}
use Rattle.tokens.specs.Walk.{Walked}
use Rattle.tokens.specs.declared.Flags.{Flags}
use Rattle.body.specs.Verdict.{Both, Answered}
use Rattle.chunk.specs.Walk.{start_of}
use Rattle.chunk.specs.Listing.{Lists}
use Rattle.log_file.specs.Listing.{FileLists}

-- "Flags: 0 or not 0."
abbrev pub flag_of : ℕ → Bool
flag_of n = not (eqb n 0)

abbrev pub flags_of : ℕ → ℕ → Flags
flags_of dependencies inline = record { dependencies = flag_of dependencies; inline = flag_of inline }

-- "Answer: refused 1 bit, number 7, 16 zeros, place or count 40."
abbrev pub packed_of : Result ℕ → ℕ
packed_of (gives n) = n % 2 ^ 40
packed_of (refuses k p) = 2 ^ 63 + k % 2 ^ 7 * 2 ^ 56 + p % 2 ^ 40

-- document 02, P8: the answer word is that of an answer that the body's definition allows, with what is left in the sheet and in the table
abbrev pub BodyPacked : Walked → Both → Both → ℕ → Type 0
BodyPacked w lent left word = (o : Result ℕ) × ((word ≡ packed_of o) × Answered lent left w o)

-- the same for the listing
abbrev pub ListPacked : List ℕ → Bool → List ℕ → List ℕ → ℕ → Type 0
ListPacked s recovery lent left word = (o : Result ℕ) × ((word ≡ packed_of o) × Lists s (start_of recovery) lent left o)

-- document 02, P1: the same for the listing of a whole file
abbrev pub ListFilePacked : List ℕ → Bool → List ℕ → List ℕ → ℕ → Type 0
ListFilePacked s recovery lent left word = (o : Result ℕ) × ((word ≡ packed_of o) × FileLists s recovery lent left o)
