-- Whether a checksum is right, as a line: the shared line is that of each mode. Assumes nothing.
use Rattle.std.specs.Prelude.{Ok}
use Rattle.std.proofs.Common.{◌≡◌, ℕ, Bool, true, false, List, ◌++◌, refl}
use Rattle.cursor.specs.Answer.{Answer, given, refused, pick}
use Rattle.record.specs.Answers.{checksum_answer}
use Rattle.print.specs.Text.{ascii}
use Rattle.chunk_answers.specs.Header.{checksum_line}
use Rattle.chunk_answers.specs.Events.{events_line}
use Rattle.chunk_answers.specs.Judgement.{judged_line}

pub checksum_judged : (a : Answer Bool) → judged_line (ascii "checksum") a ≡ checksum_line a
checksum_judged (given true n) = refl
checksum_judged (given false n) = refl
checksum_judged (refused k p) = refl

pub events_judged : (a : Answer Bool) → judged_line (ascii "events") a ≡ events_line a
events_judged (given true n) = refl
events_judged (given false n) = refl
events_judged (refused k p) = refl

-- of a checksum that was asked for
pub read_judged : (word : List ℕ) (b : Bool) → word ++ pick b (ascii " yes\n") (ascii " no\n") ≡ judged_line word (checksum_answer (Ok b))
read_judged word true = refl
read_judged word false = refl
