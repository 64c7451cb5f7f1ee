-- The single instance, the owner table and the sheet by itself. docs/ANSWERS.md, modes S, O and C.
use Rattle.std.specs.Prelude.{◌≡◌, Bool, true, false, List, [], ◌∷◌, ◌++◌, ℕ, leb, take, drop, replicate}
use Rattle.cursor.specs.Answer.{Result, gives, refuses, pick, Maybe, just, nothing}
use Rattle.cursor.specs.Reads.{number_of}
use Rattle.tokens.specs.Single.{single_of, ends_of}
use Rattle.tokens.specs.Walk.{Walked, walk_of}
use Rattle.sheet.specs.Sheet.{sheet_answer, sheet_words}
use Rattle.body.specs.Verdict.{Both, both, Answered}
use Rattle.stream_answers.specs.declared.Asked.{Asked}
use Rattle.print.specs.Text.{ascii, each, hex_word, spaced_word, line_of, refused_of}

-- '`single` offset or `single none`'
abbrev pub single_text : Maybe ℕ → List ℕ
single_text (just n) = line_of (ascii "single") (n ∷ [])
single_text nothing = ascii "single none\n"

-- '`ends yes`, `ends no` or `ends none`'
abbrev pub ends_text : Maybe Bool → List ℕ
ends_text (just true) = ascii "ends yes\n"
ends_text (just false) = ascii "ends no\n"
ends_text nothing = ascii "ends none\n"

-- S: 'data is the stream, `start` is how much was consumed'
abbrev pub single_lines : List ℕ → ℕ → List ℕ
single_lines s consumed = single_text (single_of s) ++ ends_text (ends_of s consumed)

-- the walk that is asked for
abbrev pub asked_walk : List ℕ → Asked → Walked
asked_walk s a = walk_of s a.start a.length a.flags

-- O: '`owners` and the words, or `refused` number place': the words of as many tokens as the answer counts
abbrev pub owners_text : Result ℕ → List ℕ → List ℕ
owners_text (gives n) left = line_of (ascii "owners") (take n left)
owners_text (refuses k p) left = refused_of (record { number = k; place = p })

-- the text of an answer that the body's definition allows, with what is left in a table that has a word for each token there can be, the
-- sheet having two
pub record OwnersSaid (w : Walked) (text : List ℕ) : Type 0 where
  pub answer : Result ℕ
  pub left : Both
  pub answered : Answered (both (replicate 131072 0) (replicate 65536 0)) left w answer
  pub is : text ≡ owners_text answer left.table

-- C: 'Data is four bytes of room (u32; more than 65,536 counts as that: how many words are lent, each first set to all ones) and then the
-- stream'
abbrev pub room_in : List ℕ → ℕ
room_in bytes = number_of bytes 0 4

abbrev pub stream_of : List ℕ → List ℕ
stream_of bytes = drop 4 bytes

abbrev pub lent_words : List ℕ → ℕ → List ℕ
lent_words bytes ones = replicate (pick (leb (room_in bytes) 65536) (room_in bytes) 65536) ones

-- '`count` n or `refused` number place'
abbrev pub count_text : Result ℕ → List ℕ
count_text (gives n) = line_of (ascii "count") (n ∷ [])
count_text (refuses k p) = refused_of (record { number = k; place = p })

-- '`words` and the lent words', '16 digits each'
abbrev pub words_text : List ℕ → List ℕ
words_text words = ascii "words" ++ each spaced_word words ++ ascii "\n"

-- the sheet, on a walk and lent words
abbrev pub sheet_text : Walked → List ℕ → List ℕ
sheet_text w lent = count_text (sheet_answer w lent) ++ words_text (sheet_words w lent)

-- of a C call: '`answer` and the packed word', 16 hex digits
unfoldable pub answer_text : ℕ → List ℕ
answer_text word = ascii "answer " ++ hex_word word ++ ascii "\n"
