-- `closing` meets its contract. Assumes nothing.
use mathlib.Core.Path.{◌∙◌}
use Rattle.std.proofs.lemmas.Result.{err_from_is_err_and}
use Rattle.body.specs.Reader.{done}
use Rattle.body.proofs.Walking as walking
use Rattle.body.proofs.reader.closing.Goals as goal

pub returns-then-at-marks : goal.returns-then-at-marks
returns-then-at-marks c =
    walking.over_ended _ _ _ c.if-at-marks.true

pub returns-then-marks-at-ne-PI_TARGET : goal.returns-then-marks-at-ne-PI_TARGET
returns-then-marks-at-ne-PI_TARGET c =
    rw c.refuse.ensures (walking.over_other _ _ _ c.if-at-marks.false c.if-marks-at-ne-PI_TARGET.true)

pub returns-in_err-next : goal.returns-in_err-next
returns-in_err-next c =
    let got = c.instruction in
    let p = err_from_is_err_and c.from_residual.result c.from_residual.ensures.1 in
    rw (p.1, p.2)
    (walking.resumed _ _ _ done got.result _ (got.ensures.pair_read _ _ (walking.follows _)) c.in_err-next.was)

pub returns-then-next-marks : goal.returns-then-next-marks
returns-then-next-marks c =
    let got = c.instruction in
    rw c.refuse-then-next-marks.ensures
    (walking.done_more _ _ _ c.if-next-marks.true ∙ walking.resumed _ _ _ done got.result _ (got.ensures.pair_read _ _ (walking.follows _)) c.in_ok-next.was)

pub returns : goal.returns
returns c =
    let got = c.instruction in
    walking.done_ended _ _ _ c.if-next-marks.false ∙ walking.resumed _ _ _ done got.result _ (got.ensures.pair_read _ _ (walking.follows _)) c.in_ok-next.was
