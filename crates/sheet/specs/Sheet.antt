-- The sheet. Document 01, "Sheet and C calls"; document 02, P2.
use Rattle.std.specs.Prelude.{Bool, true, false, List, [], ◌∷◌, ◌++◌, map, ℕ, zero, suc, ◌+◌, ◌-◌, ◌*◌, ◌/◌, ◌%◌, ◌^◌, leb, length}
use Rattle.cursor.specs.Answer.{Answer, given, refused, Result, gives, refuses, pick}
use Rattle.cursor.specs.Refusals.{no_room_number}
use Rattle.cursor.specs.Lent.{laid}
use Rattle.tokens.specs.Walk.{Met, handed, header, over, Walked, ok, bad, step_at}
use Rattle.tokens.specs.declared.Flags.{Flags}
use Rattle.tokens.specs.declared.Token.{Token}

abbrev pub flag_bit : Bool → ℕ
flag_bit true = 1
flag_bit false = 0

-- Document 01's word, the old sheet's: "A u64 a token, most significant first: kind 4 bits", "place 17, length 17, number 16", "flag 1",
-- "9 zeros"
abbrev pub word_of : Token → ℕ
word_of t =
    t.kind % 2 ^ 4 * 2 ^ 60 + t.place % 2 ^ 17 * 2 ^ 43 + t.len % 2 ^ 17 * 2 ^ 26 + t.number * 2 ^ 10 + flag_bit t.flag * 2 ^ 9

-- Document 02, P2: "two words a token: the first as before with that bit in the first of the nine spare places"
abbrev pub first_word_of : Token → ℕ
first_word_of t = word_of t + flag_bit t.announced * 2 ^ 8

-- "the second the name offset in 32 bits, then 32 zeros"
abbrev pub second_word_of : Token → ℕ
second_word_of t = t.name % 2 ^ 32 * 2 ^ 32

-- a token's words, and how many they are
abbrev pub words_of_token : Token → List ℕ
words_of_token t = first_word_of t ∷ second_word_of t ∷ []

abbrev pub words_per_token : ℕ
words_per_token = 2

-- a first word without that bit
abbrev pub without_bit : ℕ → ℕ
without_bit word = word - word / 2 ^ 8 % 2 * 2 ^ 8

-- the words of tokens, one token's after another's
abbrev pub words_of : List Token → List ℕ
words_of [] = []
words_of (t ∷ l) = words_of_token t ++ words_of l

-- the walk's refusal; then "lent sheet or table too short": 16, "words needed", which "counts two words a token"; else the count of tokens
abbrev pub sheet_answer : Walked → List ℕ → Result ℕ
sheet_answer (ok l) lent = pick (leb (length (words_of l)) (length lent)) (gives (length l)) (refuses no_room_number (length (words_of l)))
sheet_answer (bad k p) lent = refuses k p

-- "A refusal writes nothing." "words past the token count stay, in the sheet too"
abbrev pub sheet_words : Walked → List ℕ → List ℕ
sheet_words (ok l) lent = pick (leb (length (words_of l)) (length lent)) (laid (words_of l) lent) lent
sheet_words (bad k p) lent = lent

-- what the grammar reads of a token, its mark: the kind, and 16 more where attributes were announced
abbrev pub mark_of : Token → ℕ
mark_of t = t.kind % 2 ^ 4 + flag_bit t.announced * 2 ^ 4

abbrev pub marks_of : List Token → List ℕ
marks_of l = map mark_of l

-- the tokens that a walk hands on before it ends or is refused
abbrev pub handed_on : Answer Met → (ℕ → List Token) → List Token
handed_on (given (handed t) next) go = t ∷ go next
handed_on (given header next) go = []
handed_on (given over next) go = []
handed_on (refused k p) go = []

unfoldable pub read_from : ℕ → List ℕ → ℕ → Flags → ℕ → List Token
read_from zero s end f at = []
read_from (suc steps) s end f at = handed_on (step_at s end f at) (read_from steps s end f)

-- each token has a byte, so that there are fewer steps than bytes left and one
abbrev pub read_at : List ℕ → ℕ → Flags → ℕ → List Token
read_at s end f at = read_from (suc (length s - at)) s end f at
