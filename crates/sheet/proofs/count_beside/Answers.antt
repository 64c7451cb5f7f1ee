-- `count_beside` meets its contract: the walk from its window. Assumes nothing.
use mathlib.Core.Path.{sym, ap, ◌∙◌}
use Rattle.std.proofs.lemmas.Result.{err_from_is_err_and}
use Rattle.tokens.specs.Walk.{Walked, window_answer}
use Rattle.tokens.proofs.Steps.{walk_window}
use Rattle.sheet.specs.Kept.{in_form, beside_answer}
use Rattle.sheet.proofs.count_beside.Goals as goal

pub returns : goal.returns
returns c =
    let a = c.args in
    let e = sym (ap window_answer c.in_ok-from.was) ∙ c.window_of.ensures in
    c.note_beside.ensures.result_value ∙ ap (λ (w : Walked). beside_answer (in_form a.form) w a.given.now) (walk_window a.s.now a.start a.length a.flags _ e)

pub returns-in_err-from : goal.returns-in_err-from
returns-in_err-from c =
    let a = c.args in
    let e = sym (ap window_answer c.in_err-from.was) ∙ c.window_of.ensures in
    let p = err_from_is_err_and c.from_residual.result c.from_residual.ensures.1 in
    rw (p.1, p.2) (ap (λ (w : Walked). beside_answer (in_form a.form) w a.given.now) (walk_window a.s.now a.start a.length a.flags _ e))
