-- The name at an offset. docs/EVENT.md: "The name at an offset: u32, hash u16, count u16, units (inline: document 01's inline name, with 11 and
-- 12)." Nothing is followed from there, and nothing else is asked of the place.
use Rattle.std.specs.Prelude as Std
use Rattle.std.specs.Prelude.{Ok, Err, ℕ, ◌+◌, ◌*◌, ◌%◌, ◌^◌, Bool, true, false, List, [], ◌∷◌, length, ◌==◌, nat_le}
use Rattle.cursor.specs.Answer.{Answer, given, refused, Result, gives, refuses, ◌then◌, pick}
use Rattle.cursor.specs.Reads.{number_at, take_at, set_to, part_of}
use Rattle.cursor.specs.Refusals.{wrong_length, no_room_number}
use Rattle.cursor.specs.Text.{units_of, well_formed}
use Rattle.cursor.specs.declared.Refusal.{Refusal}
use Rattle.name.specs.Hash.{hash_of}
use Rattle.name.specs.Name.{inline_name_at}
use Rattle.name.specs.declared.Name.{Name}
use Rattle.name.specs.declared.Soundness.{Soundness}
use Rattle.name.specs.declared.Soundness.TheVariants.{Sound, Unsound, NotJudged}
use Rattle.name.specs.declared.lookup.Found.{Found}

-- what a look-up answers
abbrev pub looked_answer : Std.Result Found Refusal → Result Found
looked_answer (Ok f) = gives f
looked_answer (Err r) = refuses r.number r.place

abbrev pub found : ℕ → ℕ → Bool → Bool → Found
found units count sound hashed = record { units = units; count = count; sound = sound; hashed = hashed }

-- units with the hash that is stored before them: whether they are sound, and whether the hash is theirs
abbrev pub found_of : ℕ → ℕ → ℕ → List ℕ → Found
found_of hash start n units = found start n (well_formed units) (hash == hash_of units)

-- "u32, hash u16, count u16, units"
abbrev pub standing_at : List ℕ → ℕ → Answer Found
standing_at s at =
    number_at s at 4 then λ _ at.
    number_at s at 2 then λ hash at.
    number_at s at 2 then λ n at.
    take_at s at (2 * n) then λ p next.
    given (found_of hash p.start n (units_of (part_of s p))) next

-- an inline name that was read has its hash
abbrev pub is_sound : Soundness → Bool
is_sound Sound = true
is_sound Unsound = false
is_sound NotJudged = false

abbrev pub inline_found : Name → Found
inline_found n = found n.units n.count (is_sound n.soundness) true

abbrev pub found_at : List ℕ → Bool → ℕ → Answer Found
found_at s inline at = pick inline (inline_name_at s at then λ n next. given (inline_found n) next) (standing_at s at)

abbrev pub looked_at : Answer Found → Result Found
looked_at (given f next) = gives f
looked_at (refused k p) = refuses k p

-- "refusals 1, 2, 3 (11, 12)"
abbrev pub looked_up : List ℕ → ℕ → Bool → Result Found
looked_up s offset inline =
    pick (nat_le (length s) 65536) (looked_at (set_to s offset then λ _ at. found_at s inline at)) (refuses wrong_length 0)

-- "One word: units' start × 2^32 + count × 2^8 + sound × 2 + (hash is theirs)."
abbrev pub found_word : Found → ℕ
found_word f = f.units % 2 ^ 32 * 2 ^ 32 + f.count % 2 ^ 16 * 2 ^ 8 + pick f.sound 1 0 * 2 + pick f.hashed 1 0

-- "Answer: the count"; "then 16"
abbrev pub found_answer : Result Found → List ℕ → Result ℕ
found_answer (gives f) lent = pick (nat_le 1 (length lent)) (gives f.count) (refuses no_room_number 1)
found_answer (refuses k p) lent = refuses k p

abbrev pub found_words : Result Found → Result (List ℕ)
found_words (gives f) = gives (found_word f ∷ [])
found_words (refuses k p) = refuses k p
