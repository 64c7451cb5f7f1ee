-- Mode R of docs/ANSWERS.md: one record, and the resync offset after it.
use Rattle.std.specs.Prelude.{Ok, Err, Result, Some, None, Option}
use Rattle.cursor.specs.declared.Refusal.{Refusal}
use Rattle.std.specs.Prelude.{◌≡◌, ℕ, Bool, List, [], ◌∷◌, ◌++◌}
use Rattle.cursor.specs.Answer.{Answer, given, refused}
use Rattle.cursor.specs.Answers.{refusal_of}
use Rattle.record.specs.Record.{record_at}
use Rattle.record.specs.declared.Record.{Record}
use Rattle.chunk.specs.Walk.{resync_answer, ResyncAfter}
use Rattle.print.specs.Text.{ascii, line_of, refused_of}
use Rattle.chunk_answers.specs.Item.{size_on}

-- '`record` size id filetime payload-start payload-length, or `refused` number place'
abbrev pub record_line : List ℕ → Answer Record → List ℕ
record_line s (given r next) = line_of (ascii "record") (size_on s r)
record_line s (refused number place) = refused_of (refusal_of number place)

-- '`resync` q, or `resync none`'
abbrev pub found_line : Option ℕ → List ℕ
found_line (Some q) = line_of (ascii "resync") (q ∷ [])
found_line None = ascii "resync none\n"

-- 'no such line where the chunk's length or magic is refused'
abbrev pub resync_line : Result (Option ℕ) Refusal → List ℕ
resync_line (Ok found) = found_line found
resync_line (Err r) = []

-- the record's line, "Then" the line of 'the resync offset after p = start'
pub record RecordText (s : List ℕ) (start : ℕ) (strict : Bool) (text : List ℕ) : Type 0 where
  pub resync : (Result (Option ℕ) Refusal)
  pub after : ResyncAfter s start (resync_answer resync)
  pub is : text ≡ record_line s (record_at s start strict) ++ resync_line resync
