-- `announced_tag` meets its contract. Assumes nothing.
use Rattle.body.proofs.Walking as walking
use Rattle.body.proofs.reader.announced_tag.Goals as goal

pub returns : goal.returns
returns c =
    let p = c.requires in rw c.refuse.ensures (record { tag_further = tt {0}; tag_read = λ st. walking.tag_lacking _ _ _ p.0 _ st _ c.if-marks-at-eq-ATTRIBUTE.false c.lacking.ensures })
