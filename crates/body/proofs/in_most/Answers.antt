-- `in_most` meets its contract: there is a mark for each token. Assumes nothing.
use mathlib.Core.Path.{sym, ap, ◌∙◌}
use Prim.Native.Nat.{ℕ}
use native.Mathlib.Omega.{arith}
use lib.ListN.{length, length-replicate}
use lib.Seq.{length-take-le, length-sets}
use Rattle.std.proofs.lemmas.Result.{err_from_is_err_and}
use Rattle.cursor.specs.Answers.{count_answer}
use Rattle.tokens.specs.Walk.{walk_at}
use Rattle.sheet.specs.Sheet.{marks_of, read_at}
use Rattle.body.specs.Verdict.{both}
use Rattle.body.proofs.Answers.{walk_refused, few_marks, front_short, walk_noted}
use Rattle.body.proofs.in_most.Goals as goal

pub slice_bounds-marks-end : goal.slice_bounds-marks-end
slice_bounds-marks-end c =
    let n = c.note in
    let a = c.args in
    let m = c.in_ok-n.n in
    let g = sym n.ensures.result_value ∙ ap count_answer c.in_ok-n.was in
    omega (arith, few_marks a.s.now a.end a.flags a.start m g c.requires.0 c.requires.1)

pub slice_bounds-again-end : goal.slice_bounds-again-end
slice_bounds-again-end c =
    let n = c.note in
    let a = c.args in
    let m = c.in_ok-n.n in
    let g = sym n.ensures.result_value ∙ ap count_answer c.in_ok-n.was in
    let k = ap length n.ensures.kinds_after ∙ length-sets _ 0 (marks_of (read_at a.s.now a.end a.flags a.start)) in
    let e = length-replicate {A = ℕ} 65536 0 in
    sym (length-take-le m n.new.kinds (omega (arith, k, e, few_marks a.s.now a.end a.flags a.start m g c.requires.0 c.requires.1)))

pub again-requires : goal.again-requires
again-requires c =
    let n = c.note in
    let a = c.args in
    let m = c.in_ok-n.n in
    let g = sym n.ensures.result_value ∙ ap count_answer c.in_ok-n.was in
    let k = ap length n.ensures.kinds_after ∙ length-sets _ 0 (marks_of (read_at a.s.now a.end a.flags a.start)) in
    let e = length-replicate {A = ℕ} 65536 0 in
    let l = few_marks a.s.now a.end a.flags a.start m g c.requires.0 c.requires.1 in (
      front_short m 65536 n.new.kinds (omega (arith, k, e)),
      walk_noted a.s.now a.end a.flags a.start m g _ n.new.kinds n.ensures.kinds_after (omega (arith, k, e, l)),
    )

pub returns-in_err-n : goal.returns-in_err-n
returns-in_err-n c =
    let a = c.args in
    let g = sym c.note.ensures.result_value ∙ ap count_answer c.in_err-n.was in
    let p = err_from_is_err_and c.from_residual.result c.from_residual.ensures.1 in
    rw (p.1, p.2) (walk_refused (walk_at a.s.now a.end a.flags a.start) (both a.sheet.now a.table.now) _ _ g)
