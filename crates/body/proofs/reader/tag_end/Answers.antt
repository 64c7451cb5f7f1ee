-- `tag_end` meets its contract. Assumes nothing.
use native.Mathlib.Omega.{arith}
use Rattle.body.proofs.Walking as walking
use Rattle.body.proofs.reader.tag_end.Goals as goal

pub returns-then-marks-at-eq-CLOSE_EMPTY : goal.returns-then-marks-at-eq-CLOSE_EMPTY
returns-then-marks-at-eq-CLOSE_EMPTY c =
    let p = c.requires in record { tag_further = omega (arith, p.0); tag_end_read = λ announced last q i st. walking.tag_empty _ _ _ p.0 announced last _ st _ q c.if-marks-at-eq-CLOSE_EMPTY.true c.put.ensures }

pub returns-then-marks-at-eq-CLOSE_START : goal.returns-then-marks-at-eq-CLOSE_START
returns-then-marks-at-eq-CLOSE_START c =
    let p = c.requires in record { tag_further = omega (arith, p.0); tag_end_read = λ announced last q i st. walking.tag_full _ _ _ p.0 announced last _ st _ q c.if-marks-at-eq-CLOSE_START.true c.put-then-marks-at-eq-CLOSE_START.ensures }

pub returns : goal.returns
returns c =
    let p = c.requires in rw c.refuse.ensures (record { tag_further = tt {0}; tag_end_read = λ announced last q i st. walking.tag_other _ _ _ p.0 announced last _ st p.1 c.if-marks-at-eq-CLOSE_EMPTY.false c.if-marks-at-eq-CLOSE_START.false i })
