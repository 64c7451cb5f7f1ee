-- `narrow` meets its contract: the sheet is accepted, and its old words are laid; or it is refused. Assumes nothing.
use mathlib.Core.Path.{sym, ap, ◌∙◌}
use Rattle.std.proofs.lemmas.Result.{err_from_is_err_and}
use Rattle.cursor.specs.Answers.{count_answer}
use Rattle.tokens.specs.Walk.{walk_of}
use Rattle.sheet.specs.Sheet.{words_of}
use Rattle.sheet.specs.Kept.{old_words_of}
use Rattle.sheet.proofs.Keeping.{kept_refused}
use Rattle.kept.proofs.Narrowing.{narrow_accepted}
use Rattle.kept.proofs.narrow.Goals as goal

pub returns : goal.returns
returns c =
    let a = c.args in
    let e = sym c.count_beside.ensures ∙ ap count_answer c.in_ok-count_beside.was in
    let k = narrow_accepted (walk_of a.s.now a.start a.length a.flags) a.sheet.now a.old.now _ e in
    record { result_value = c.narrowed.ensures.result_value ∙ k.0; after = c.narrowed.ensures.after ∙ k.1 }

pub returns-in_err-count_beside : goal.returns-in_err-count_beside
returns-in_err-count_beside c =
    let a = c.args in
    let e = sym c.count_beside.ensures ∙ ap count_answer c.in_err-count_beside.was in
    let both = kept_refused words_of old_words_of (walk_of a.s.now a.start a.length a.flags) a.sheet.now a.old.now _ _ e in
    let p = err_from_is_err_and c.from_residual.result c.from_residual.ensures.1 in
    rw (p.1, p.2) (record { result_value = both.0; after = both.1 })
