-- `open_tag` meets its contract. Assumes nothing.
use mathlib.Core.Path.{sym, ap, ◌∙◌}
use mathlib.Core.Bool.{Bool}
use Prim.Native.Nat.{◌+◌}
use Rattle.body.specs.Reader.{walk, tag}
use Rattle.body.proofs.Walking as walking
use Rattle.body.proofs.reader.open_tag.Goals as goal

pub returns-then-at-marks : goal.returns-then-at-marks
returns-then-at-marks c =
    rw c.refuse.ensures (record { tag_further = tt {0}; open_read = λ st. walking.tag_ended _ _ _ _ _ _ st c.if-at-marks.true })

pub announced_tag-requires : goal.announced_tag-requires
announced_tag-requires c = (c.if-at-marks.false, c.requires.1)

pub returns-then-is_announcing : goal.returns-then-is_announcing
returns-then-is_announcing c =
    let a = c.args in
    let e = sym c.is_announcing.ensures ∙ c.if-is_announcing.true in
    let got = c.announced_tag in record { tag_further = got.ensures.tag_further; open_read = λ st. got.ensures.tag_read st ∙ ap (λ (x : Bool). walk a.marks.now (tag x 0 a.me st) (a.at + 1) a.table.now) (sym e) }

pub plain_tag-requires : goal.plain_tag-requires
plain_tag-requires c = c.if-at-marks.false

pub returns : goal.returns
returns c =
    let a = c.args in
    let e = sym c.is_announcing.ensures ∙ c.if-is_announcing.false in
    let got = c.plain_tag in record { tag_further = got.ensures.tag_further; open_read = λ st. got.ensures.tag_read st ∙ ap (λ (x : Bool). walk a.marks.now (tag x 0 a.me st) (a.at + 1) a.table.now) (sym e) }
