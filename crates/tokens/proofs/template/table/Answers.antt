-- `table` meets its contract: after each descriptor the rest of the table is left. Assumes nothing.
use mathlib.Core.Path.{sym, ap, ◌∙◌}
use native.Mathlib.Omega.{arith}
use Rattle.std.proofs.lemmas.Result.{err_from_is_err_and}
use Rattle.cursor.specs.Answers.{moved_answer}
use Rattle.tokens.proofs.Runs.{table_on, table_none}
use Rattle.tokens.proofs.template.table.Goals as goal

pub loop-preserved : goal.loop-preserved
loop-preserved c =
    let a = c.args in
    let e = sym c.descriptor.ensures ∙ ap moved_answer c.in_ok-at.was in
    c.loop.invariant ∙ table_on a.s.now c.loop.at.at a.count c.loop.counter _ (omega arith) e

pub returns-in_err-at : goal.returns-in_err-at
returns-in_err-at c =
    let a = c.args in
    let e = sym c.descriptor.ensures ∙ ap moved_answer c.in_err-at.was in
    let p = err_from_is_err_and c.from_residual.result c.from_residual.ensures.1 in
    rw (p.1, p.2) (sym (c.loop.invariant ∙ table_on a.s.now c.loop.at.at a.count c.loop.counter _ (omega arith) e))

pub returns : goal.returns
returns c =
    let a = c.args in
    sym (c.loop.invariant ∙ table_none a.s.now c.loop.at.at a.count c.loop.counter (omega arith))
