-- `fill_beside` meets its contract: the sheet of the walk from its window. Assumes nothing.
use mathlib.Core.Path.{refl, sym, ap, ◌∙◌}
use Rattle.std.proofs.lemmas.Result.{err_from_is_err_and}
use Rattle.tokens.specs.Walk.{window_answer}
use Rattle.tokens.proofs.Steps.{walk_window, window_bounded}
use Rattle.sheet.proofs.Keeping.{kept_as}
use Rattle.sheet.proofs.fill_beside.Goals as goal

pub fill_in-requires : goal.fill_in-requires
fill_in-requires c =
    let a = c.args in
    (window_bounded a.s.now a.start a.length _ (sym (ap window_answer c.in_ok-from.was) ∙ c.window_of.ensures)).2

pub returns : goal.returns
returns c =
    let a = c.args in
    let e = sym (ap window_answer c.in_ok-from.was) ∙ c.window_of.ensures in
    let both = kept_as _ _ a.form a.given.now a.sheet.now _ _ (walk_window a.s.now a.start a.length a.flags _ e) (c.fill_in.ensures.result_value, c.fill_in.ensures.sheet_after) in
    record { result_value = both.0; sheet_after = both.1 }

pub returns-in_err-from : goal.returns-in_err-from
returns-in_err-from c =
    let a = c.args in
    let e = sym (ap window_answer c.in_err-from.was) ∙ c.window_of.ensures in
    let both = kept_as _ _ a.form a.given.now a.sheet.now a.sheet.now _ (walk_window a.s.now a.start a.length a.flags _ e) (refl, refl) in
    let p = err_from_is_err_and c.from_residual.result c.from_residual.ensures.1 in
    rw (p.1, p.2) (record { result_value = both.0; sheet_after = both.1 })
