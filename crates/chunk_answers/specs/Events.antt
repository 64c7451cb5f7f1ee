-- Mode E of docs/ANSWERS.md: the events checksum of a chunk.
use Rattle.std.specs.Prelude.{ℕ, Bool, List}
use Rattle.cursor.specs.Answer.{Answer, given, refused, pick}
use Rattle.cursor.specs.Answers.{refusal_of}
use Rattle.print.specs.Text.{ascii, refused_of}

-- '`events yes` or `events no`, or `refused` number place'
abbrev pub events_line : Answer Bool → List ℕ
events_line (given right next) = pick right (ascii "events yes\n") (ascii "events no\n")
events_line (refused number place) = refused_of (refusal_of number place)
