-- Sheet and owner table by one C call. docs/ANSWERS.md, modes B and N.
use Rattle.std.specs.Prelude.{◌≡◌, List, ◌++◌, ℕ, ◌-◌, ◌^◌, leb, drop, replicate}
use Rattle.cursor.specs.Answer.{pick}
use Rattle.cursor.specs.Reads.{number_of}
use Rattle.tokens.specs.Walk.{Walked}
use Rattle.body.specs.Verdict.{Both, both}
use Rattle.doortumble.specs.Calls.{BodyPacked}
use Rattle.nest_call.specs.Calls.{BodiesPacked}
use Rattle.print.specs.Text.{ascii, each, spaced_word, spaced_half}
use Rattle.stream_answers.specs.Modes.{lent_words, answer_text}
use Rattle.stream_answers.specs.declared.Asked.{Asked}

-- B: 'Data is u32 sheet room, u32 table room (words lent, all ones; more than 65,536 counts as that), then the stream'
abbrev pub table_room_in : List ℕ → ℕ
table_room_in bytes = number_of bytes 4 4

abbrev pub body_stream : List ℕ → List ℕ
body_stream bytes = drop 8 bytes

abbrev pub lent_both : List ℕ → Both
lent_both bytes =
    both (lent_words bytes (2 ^ 64 - 1)) (replicate (pick (leb (table_room_in bytes) 65536) (table_room_in bytes) 65536) (2 ^ 32 - 1))

-- '`sheet` and the lent words (16 digits each), `table` and the lent words (8 digits each)'
abbrev pub both_text : Both → List ℕ
both_text words = ascii "sheet" ++ each spaced_word words.sheet ++ ascii "\ntable" ++ each spaced_half words.table ++ ascii "\n"

-- the text of an answer word that the call's definition allows, with what is left in both
pub record BodyCalled (w : Walked) (lent : Both) (text : List ℕ) : Type 0 where
  pub word : ℕ
  pub left : Both
  pub packed : BodyPacked w lent left word
  pub is : text ≡ answer_text word ++ both_text left

-- N: the same of the call that goes into the bodies in values
pub record BodiesCalled (s : List ℕ) (asked : Asked) (lent : Both) (text : List ℕ) : Type 0 where
  pub word : ℕ
  pub left : Both
  pub packed : BodiesPacked s asked.start asked.length asked.flags lent left word
  pub is : text ≡ answer_text word ++ both_text left
