-- The C calls of what an event says and of the name at an offset, on lent words. docs/ANSWERS.md, modes E and J.
use Rattle.std.specs.Prelude.{◌≡◌, Bool, List, ◌++◌, ℕ}
use Rattle.cursor.specs.Lent.{lent_left}
use Rattle.name.specs.Lookup.{looked_up, found_answer, found_words}
use Rattle.doortumble.specs.Calls.{packed_of}
use Rattle.event_call.specs.Calls.{EventPacked}
use Rattle.stream_answers.specs.Modes.{answer_text, words_text}

-- E: '`answer` and the packed word, `words` and the lent words': the text of an answer word that the call's definition allows, with what is
-- left in the lent words
pub record EventCalled (s : List ℕ) (start len : ℕ) (inline : Bool) (lent text : List ℕ) : Type 0 where
  pub word : ℕ
  pub left : List ℕ
  pub packed : EventPacked s start len inline lent left word
  pub is : text ≡ answer_text word ++ words_text left

-- J: the same of the name's call
abbrev pub name_text : List ℕ → ℕ → Bool → List ℕ → List ℕ
name_text s offset inline lent =
    answer_text (packed_of (found_answer (looked_up s offset inline) lent)) ++ words_text (lent_left (found_words (looked_up s offset inline)) lent)
