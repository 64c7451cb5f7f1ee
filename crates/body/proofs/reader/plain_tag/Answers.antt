-- `plain_tag` meets its contract. Assumes nothing.
use Rattle.body.proofs.Walking as walking
use Rattle.body.proofs.reader.plain_tag.Goals as goal

pub returns-then-marks-at-eq-ATTRIBUTE : goal.returns-then-marks-at-eq-ATTRIBUTE
returns-then-marks-at-eq-ATTRIBUTE c =
    rw c.refuse.ensures (record { tag_further = tt {0}; tag_read = λ st. walking.plain_attribute _ _ _ c.requires _ _ st c.if-marks-at-eq-ATTRIBUTE.true })
