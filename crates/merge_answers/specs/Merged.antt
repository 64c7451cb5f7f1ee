-- The merge's C call on lent words. docs/ANSWERS.md, mode M.
use Rattle.std.specs.Prelude.{◌≡◌, Bool, List, ◌++◌, ℕ, ◌+◌, ◌-◌, ◌*◌, ◌^◌, leb, replicate}
use Rattle.cursor.specs.Answer.{pick}
use Rattle.cursor.specs.Reads.{number_of}
use Rattle.merge.specs.declared.Rule.{Rule}
use Rattle.merge.specs.declared.Rule.TheVariants as R
use Rattle.merge_call.specs.Calls.{MergePacked}
use Rattle.stream_answers.specs.Modes.{answer_text, words_text}
use Rattle.stream_answers.specs.Kept.{stored_words}

-- a case's data holds no more words
abbrev pub most_given : ℕ
most_given = 41470

-- M: 'Data is u32 a, u32 b, u32 room (..), 8·a bytes (the primary's words), 8·b bytes (the other's)'
abbrev pub count_at : List ℕ → ℕ → ℕ
count_at bytes at = pick (leb (number_of bytes at 4) most_given) (number_of bytes at 4) most_given

abbrev pub primary_in : List ℕ → List ℕ
primary_in bytes = stored_words (count_at bytes 0) bytes 12

abbrev pub other_in : List ℕ → List ℕ
other_in bytes = stored_words (count_at bytes 4) bytes (12 + 8 * count_at bytes 0)

-- 'room (how many words are lent, each first set to all ones; more than 65,536 counts as that)'
abbrev pub room_in : List ℕ → ℕ
room_in bytes = number_of bytes 8 4

abbrev pub lent_in : List ℕ → List ℕ
lent_in bytes = replicate (pick (leb (room_in bytes) 65536) (room_in bytes) 65536) (2 ^ 64 - 1)

-- 'flag 1: rule two, else rule one'
abbrev pub rule_by : Bool → Rule
rule_by newest = pick newest R.Newest R.Primary

-- '`answer` and the packed word', '`words` and the lent words': the text of an answer word that the call's definition allows, with what is
-- left in the lent words
pub record MergeCalled (primary other : List ℕ) (rule : Rule) (lent text : List ℕ) : Type 0 where
  pub word : ℕ
  pub left : List ℕ
  pub packed : MergePacked primary other rule lent left word
  pub is : text ≡ answer_text word ++ words_text left
