-- `leading` meets its contract. Assumes nothing.
use native.Mathlib.Omega.{arith}
use borrow.Author.Rules.{rules}
use Rattle.body.proofs.Walking as walking
use Rattle.body.proofs.reader.leading.Goals as goal

pub returns-then-marks-eq0 : goal.returns-then-marks-eq0
returns-then-marks-eq0 c =
    walking.begin_ended _ 0 _ (omega (arith, c.if-marks-eq0.true))

pub returns-then-marks-ne-PI_TARGET : goal.returns-then-marks-ne-PI_TARGET
returns-then-marks-ne-PI_TARGET c =
    walking.begin_root _ 0 _ (omega (arith, c.if-marks-eq0.false)) c.if-marks-ne-PI_TARGET.true

pub instruction-requires : goal.instruction-requires
instruction-requires c =
    (omega (arith, c.if-marks-eq0.false), c.if-marks-ne-PI_TARGET.false)

pub returns : goal.returns
returns c =
    c.instruction.ensures.pair_read _ _ (walking.leads 0)
