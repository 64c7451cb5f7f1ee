-- Words in a lent buffer. Document 01, "Grammar": "words past the token count stay, in the sheet too".
use Rattle.std.specs.Prelude.{List, ◌++◌, ℕ, leb, length, drop}
use Rattle.cursor.specs.Answer.{Result, gives, refuses, pick}
use Rattle.cursor.specs.Refusals.{no_room_number}

-- words laid over the beginning of lent ones; those past them stay
abbrev pub laid : List ℕ → List ℕ → List ℕ
laid words lent = words ++ drop (length words) lent

-- a call that has words for lent ones, or a refusal of its own, answers how many they are; "lent sheet or table too short": 16, with the
-- "words needed"
abbrev pub lent_answer : Result (List ℕ) → List ℕ → Result ℕ
lent_answer (gives words) lent = pick (leb (length words) (length lent)) (gives (length words)) (refuses no_room_number (length words))
lent_answer (refuses k p) lent = refuses k p

-- "A refusal writes nothing." What the lent words hold then
abbrev pub lent_left : Result (List ℕ) → List ℕ → List ℕ
lent_left (gives words) lent = pick (leb (length words) (length lent)) (laid words lent) lent
lent_left (refuses k p) lent = lent
