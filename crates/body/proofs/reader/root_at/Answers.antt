-- `root_at` meets its contract. Assumes nothing.
use mathlib.Core.Path.{refl, sym, ◌∙◌}
use native.Mathlib.Omega.{arith}
use Rattle.body.proofs.Walking as walking
use Rattle.body.proofs.reader.root_at.Goals as goal

pub returns-then-at-marks : goal.returns-then-at-marks
returns-then-at-marks c =
    rw c.refuse.ensures (walking.root_ended _ _ _ c.if-at-marks.true)

pub content-requires : goal.content-requires
content-requires c =
    let h = c.if-at-marks.false in (
      omega (arith, h),
      c.requires,
      λ z. (h, sym c.is_open.ensures ∙ c.if-is_open.true, refl),
    )

pub returns-then-is_open : goal.returns-then-is_open
returns-then-is_open c = c.content.ensures.content_read.0 refl

pub returns-then-marks-at-eq-INSTANCE : goal.returns-then-marks-at-eq-INSTANCE
returns-then-marks-at-eq-INSTANCE c =
    walking.root_instance _ _ _ c.if-at-marks.false _ c.if-marks-at-eq-INSTANCE.true c.put.ensures

pub returns : goal.returns
returns c =
    rw c.refuse-2.ensures (walking.root_other _ _ _ c.if-at-marks.false (sym c.is_open.ensures ∙ c.if-is_open.false) c.if-marks-at-eq-INSTANCE.false)
