-- `noted_in` meets its contract: the walk into words of its own, as far as they go, and then the sheet. Assumes nothing.
use mathlib.Core.Path.{sym, ap, ◌∙◌}
use Rattle.std.proofs.lemmas.Result.{err_from_is_err_and}
use Rattle.cursor.specs.Answers.{count_answer}
use Rattle.tokens.specs.Walk.{walk_at}
use Rattle.sheet.specs.Sheet.{words_of}
use Rattle.sheet.specs.Kept.{in_form}
use Rattle.sheet.proofs.Laying.{words_noted}
use Rattle.sheet.proofs.Keeping.{accepted_count, kept_filled, kept_refused}
use Rattle.sheet.proofs.noted_in.Goals as goal

pub filled-requires : goal.filled-requires
filled-requires g c =
    let a = c.args in
    let n = c.note_beside in
    let b = sym n.ensures.result_value ∙ ap count_answer c.in_ok-n.was in
    let k = accepted_count (in_form a.form) (walk_at a.s.now a.end a.flags a.start) a.given.now _ b in
    record { start_value = k; noted = words_noted a.s.now a.end a.flags a.start _ k _ _ n.ensures.words_after }

pub returns : goal.returns
returns g c =
    let a = c.args in
    let b = sym c.note_beside.ensures.result_value ∙ ap count_answer c.in_ok-n.was in
    let k = kept_filled (in_form a.form) (walk_at a.s.now a.end a.flags a.start) a.given.now a.sheet.now _ b in
    record { result_value = c.filled.ensures.result_value ∙ k.0; sheet_after = c.filled.ensures.sheet_after ∙ k.1 }

pub returns-in_err-n : goal.returns-in_err-n
returns-in_err-n g c =
    let a = c.args in
    let k = kept_refused (in_form a.form) words_of (walk_at a.s.now a.end a.flags a.start) a.given.now a.sheet.now _ _ (sym c.note_beside.ensures.result_value ∙ ap count_answer c.in_err-n.was) in
    let p = err_from_is_err_and c.from_residual.result c.from_residual.ensures.1 in
    rw (p.1, p.2) (record { result_value = k.0; sheet_after = k.1 })
