-- `counted` meets its contract. Assumes nothing.
use Rattle.std.specs.Prelude.{ℕ, Result}
use Rattle.cursor.specs.declared.Refusal.{Refusal}
use borrow.Author.Rules.{rules}
use mathlib.Core.Path.{sym, ap}
use Rattle.cursor.specs.Answers.{count_answer}
use Rattle.print.proofs.Putting.{put_as}
use Rattle.stream_answers.specs.Modes.{count_text}
use Rattle.stream_answers.proofs.call.counted.Goals as goal

pub returns-in-Ok : goal.returns-in-Ok
returns-in-Ok c = put_as (ap (λ (x : Result ℕ Refusal). count_text (count_answer x)) (sym c.in-Ok.is)) c.line.ensures

pub returns-in-Err : goal.returns-in-Err
returns-in-Err c = put_as (ap (λ (x : Result ℕ Refusal). count_text (count_answer x)) (sym c.in-Err.is)) c.refused.ensures
