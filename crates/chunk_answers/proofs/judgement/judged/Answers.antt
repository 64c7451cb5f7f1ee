-- `judged` meets its contract, answer by answer. Assumes nothing.
use Rattle.std.specs.Prelude.{Ok, Err, Result}
use Rattle.cursor.specs.declared.Refusal.{Refusal}
use Rattle.std.proofs.Common.{Bool, ◌≡◌, sym, ap, ◌∙◌, refl, rules}
use Rattle.record.specs.Answers.{checksum_answer}
use Rattle.print.proofs.Putting.{◌▸◌, put_as}
use Rattle.chunk_answers.specs.Judgement.{judged_line}
use Rattle.chunk_answers.proofs.Judging.{read_judged}
use Rattle.chunk_answers.proofs.judgement.judged.Goals as goal

pub returns-in-Ok : goal.returns-in-Ok
returns-in-Ok c =
    let a = c.args in
    put_as (read_judged a.word.now c.in-Ok.b ∙ ap (λ (k : Result Bool Refusal). judged_line a.word.now (checksum_answer k)) (sym c.in-Ok.is))
    (c.text-end.ensures ▸ c.yes_or_no.ensures)

pub returns-in-Err : goal.returns-in-Err
returns-in-Err c =
    let a = c.args in
    put_as (ap (λ (k : Result Bool Refusal). judged_line a.word.now (checksum_answer k)) (sym c.in-Err.is)) c.refused.ensures
