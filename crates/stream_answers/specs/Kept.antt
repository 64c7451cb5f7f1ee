-- The moves of a kept sheet. docs/ANSWERS.md, mode K.
use Rattle.std.specs.Prelude.{Bool, true, false, List, [], ◌∷◌, ◌++◌, ℕ, zero, suc, ◌+◌, ◌*◌, leb, drop}
use Rattle.cursor.specs.Answer.{Result, pick}
use Rattle.cursor.specs.Reads.{number_of}
use Rattle.tokens.specs.Walk.{Walked}
use Rattle.sheet.specs.Sheet.{words_of}
use Rattle.sheet.specs.Kept.{old_words_of, kept_answer, kept_words}
use Rattle.doortumble.specs.Calls.{packed_of}
use Rattle.stream_answers.specs.Modes.{answer_text, words_text}

-- a case's data holds no more words
abbrev pub most_given : ℕ
most_given = 41471

-- K: 'Data is u32 room (..), u32 m, 8·m bytes (the words given), then the stream'
abbrev pub given_count : List ℕ → ℕ
given_count bytes = pick (leb (number_of bytes 4 4) most_given) (number_of bytes 4 4) most_given

-- words of eight bytes each, one behind the other from a place on
abbrev pub stored_words : ℕ → List ℕ → ℕ → List ℕ
stored_words zero bytes at = []
stored_words (suc m) bytes at = number_of bytes at 8 ∷ stored_words m bytes (at + 8)

abbrev pub given_words : List ℕ → List ℕ
given_words bytes = stored_words (given_count bytes) bytes 8

abbrev pub kept_stream : List ℕ → List ℕ
kept_stream bytes = drop (8 + 8 * given_count bytes) bytes

-- 'flag 4: narrow, else widen'
abbrev pub move_answer : Bool → Walked → List ℕ → List ℕ → Result ℕ
move_answer true w given lent = kept_answer words_of old_words_of w given lent
move_answer false w given lent = kept_answer old_words_of words_of w given lent

abbrev pub move_words : Bool → Walked → List ℕ → List ℕ → List ℕ
move_words true w given lent = kept_words words_of old_words_of w given lent
move_words false w given lent = kept_words old_words_of words_of w given lent

-- '`answer` and the packed word', '`words` and the lent words'
abbrev pub kept_text : Bool → Walked → List ℕ → List ℕ → List ℕ
kept_text narrow w given lent = answer_text (packed_of (move_answer narrow w given lent)) ++ words_text (move_words narrow w given lent)
