-- What a C caller takes from an answer word, and what the bytes of a stream are. Document 01, "Sheet and C calls".
use Rattle.std.specs.Prelude.{List, [], ◌∷◌, ◌++◌, ℕ, ◌/◌, ◌%◌, ◌^◌, ◌<◌, eqb, get_or, replicate}
use Rattle.cursor.specs.Answer.{Result, gives, refuses, pick}

-- "Answer: refused 1 bit, number 7, 16 zeros, place or count 40": as include/doortumble.h takes the word apart
-- (doortumble_refused, doortumble_number, doortumble_place, doortumble_count)
abbrev pub unpacked_of : ℕ → Result ℕ
unpacked_of word = pick (eqb (word / 2 ^ 63) 1) (refuses (word / 2 ^ 56 % 2 ^ 7) (word % 2 ^ 40)) (gives (word % 2 ^ 40))

-- each is a byte (past the end `get_or` gives 0). So it is in every slice of bytes, and the checker knows it of each; the definitions go over
-- lists of any numbers, so that a theorem over them has to say it
abbrev pub Bytes : List ℕ → Type 0
Bytes s = (i : ℕ) → get_or s i 0 < 256

-- an instance whose definition is in place and claims 2^32 - 1 bytes: the position that it sets is past 2^32
abbrev pub far_stream : List ℕ
far_stream = 0x0C ∷ 1 ∷ 1 ∷ 0 ∷ 0 ∷ 0 ∷ 10 ∷ 0 ∷ 0 ∷ 0 ∷ replicate 20 0 ++ (0xFF ∷ 0xFF ∷ 0xFF ∷ 0xFF ∷ [])
