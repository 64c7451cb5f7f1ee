-- `next` meets its contract: by where the walk stands. Assumes nothing.
use mathlib.Core.Path.{sym, subst}
use Rattle.nest.specs.Going.{MetAt, Near}
use Rattle.nest.specs.declared.inner.Place.{Place}
use Rattle.nest.proofs.inner.next.Goals as goal

pub run-requires : goal.run-requires
run-requires c =
    let a = c.args in
    let p = c.requires in
    let w = subst (λ (z : Place). Near a.s.now z a.n) c.in-Between.is p.left_le_deepest_body.2 in record { left_le_deepest_body = (p.left_le_deepest_body.0, p.left_le_deepest_body.1, w.0, w.1); marks_len = p.marks_len }

pub returns-in-Between : goal.returns-in-Between
returns-in-Between c =
    let a = c.args in
    let x = c.run in
    let m = x.ensures in
    record {
      at = subst (λ (z : Place). MetAt a.s.now a.end a.flags a.left z a.n a.k a.marks.now a.numbers.now a.sheet.now x.new.marks x.new.numbers x.new.sheet x.result) (sym c.in-Between.is) m;
      counted = m.counted;
      fits = m.fits;
      marks_same = m.marks_same;
      numbers_same = m.numbers_same;
      sheet_same = m.sheet_same;
    }
