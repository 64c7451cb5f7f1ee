-- `values` meets its contract: the values that are left, put behind those that are there, are the whole. Assumes nothing.
use Rattle.std.specs.Prelude.{Ok}
use borrow.Author.Rules.{rules}
use mathlib.Core.Path.{◌≡◌, ap, ◌∙◌}
use native.Mathlib.Omega.{arith}
use lib.ListN.{length}
use Rattle.print.proofs.Putting.{Left, nothing_yet}
use Rattle.stream_answers.specs.Token.{values_from}
use Rattle.stream_answers.proofs.Parts.{left_next, left_none}
use Rattle.stream_answers.proofs.Listing.{left_falls, values_next, values_done, values_refused}
use Rattle.stream_answers.proofs.field.values.Goals as goal

pub loop-x-init : goal.loop-x-init
loop-x-init c = (omega arith, nothing_yet)

pub loop-x-smaller : goal.loop-x-smaller
loop-x-smaller c =
    let l = c.loop-x in
    let h = left_falls c.args.s.now l.v _ c.next.ensures _ _ _ (c.in-Ok-Some.is ∙ ap Ok c.in-Ok-Some.field-0-is) in
    omega (arith, h.0, h.1)

pub loop-x-preserved : goal.loop-x-preserved
loop-x-preserved c =
    let l = c.loop-x in (
      omega arith,
      left_next l.invariant.1 (values_next c.args.s.now l.v _ c.next.ensures _ _ _ (c.in-Ok-Some.is ∙ ap Ok c.in-Ok-Some.field-0-is)) c.sized-filled.ensures,
    )

pub returns-in-Ok-None : goal.returns-in-Ok-None
returns-in-Ok-None c =
    let l = c.loop-x in
    left_none l.invariant.1 (values_done c.args.s.now l.v _ c.next.ensures (c.in-Ok-None.is ∙ ap Ok c.in-Ok-None.field-0-is))

pub returns-in-Err : goal.returns-in-Err
returns-in-Err c =
    let l = c.loop-x in
    left_none l.invariant.1 (values_refused c.args.s.now l.v _ c.next.ensures _ c.in-Err.is)
