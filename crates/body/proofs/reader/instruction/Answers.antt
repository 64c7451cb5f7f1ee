-- `instruction` meets its contract. Assumes nothing.
use mathlib.Core.Path.{◌∙◌}
use native.Mathlib.Omega.{arith}
use Rattle.body.proofs.Walking as walking
use Rattle.body.proofs.reader.instruction.Goals as goal

pub returns-then-at-marks : goal.returns-then-at-marks
returns-then-at-marks c =
    let p = c.requires in rw c.refuse.ensures (record { further = tt {0}; pair_read = λ s s' m. walking.target_ended _ _ _ _ s' c.if-at-marks.true ∙ walking.pair_target _ _ _ p.0 _ s s' _ p.1 m c.put.ensures })

pub returns-then-marks-at-ne-PI_DATA : goal.returns-then-marks-at-ne-PI_DATA
returns-then-marks-at-ne-PI_DATA c =
    let p = c.requires in rw c.refuse-then-marks-at-ne-PI_DATA.ensures (record { further = tt {0}; pair_read = λ s s' m. walking.target_other _ _ _ c.if-at-marks.false _ s' c.if-marks-at-ne-PI_DATA.true ∙ walking.pair_target _ _ _ p.0 _ s s' _ p.1 m c.put.ensures })

pub returns : goal.returns
returns c =
    let p = c.requires in
    let a = c.args in record { further = omega (arith, c.if-at-marks.false); pair_read = λ s s' m. walking.instruction_read _ a.at _ _ _ _ s s' c.if-at-marks.false p.1 c.if-marks-at-ne-PI_DATA.false m c.put.ensures c.put-2.ensures }
