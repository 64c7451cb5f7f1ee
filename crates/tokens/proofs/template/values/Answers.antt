-- `values` meets its contract: after each value the rest of the values is left. Assumes nothing.
use mathlib.Core.Path.{sym, ap, subst, ◌∙◌}
use Prim.Native.Nat.{◌+◌, ◌*◌}
use native.Mathlib.Omega.{arith}
use lib.ListN.{length}
use Rattle.std.proofs.lemmas.Result.{err_from_is_err_and}
use Rattle.cursor.specs.Answers.{read_answer}
use Rattle.value.proofs.Bounds.{Between}
use Rattle.tokens.proofs.Runs.{values_on, values_none, step_reads}
use Rattle.tokens.proofs.Reach.{value}
use Rattle.tokens.proofs.template.values.Goals as goal

pub loop-i-preserved : goal.loop-i-preserved
loop-i-preserved c =
    let a = c.args in
    let s = a.s.now in
    let i = c.loop-i.invariant in
    let at = c.loop-i.next.at in
    let t = a.first + 4 * c.loop-i.i in
    let e = sym (step_reads s t at (omega arith) i.0) ∙ sym c.value_in.ensures ∙ ap read_answer c.in_ok-after.was in
    let h = subst (Between at (length s)) e (value s t at i.0) in
    (h.1, i.1 ∙ values_on s a.first at a.count c.loop-i.i _ (omega arith) e)

pub returns-in_err-after : goal.returns-in_err-after
returns-in_err-after c =
    let a = c.args in
    let s = a.s.now in
    let i = c.loop-i.invariant in
    let at = c.loop-i.next.at in
    let e = sym (step_reads s (a.first + 4 * c.loop-i.i) at (omega arith) i.0) ∙ sym c.value_in.ensures ∙ ap read_answer c.in_err-after.was in
    let p = err_from_is_err_and c.from_residual.result c.from_residual.ensures.1 in
    rw (p.1, p.2) (sym (i.1 ∙ values_on s a.first at a.count c.loop-i.i _ (omega arith) e))

pub returns : goal.returns
returns c =
    let a = c.args in
    sym (c.loop-i.invariant.1 ∙ values_none a.s.now (a.first + 4 * c.loop-i.i) c.loop-i.next.at a.count c.loop-i.i (omega arith))
