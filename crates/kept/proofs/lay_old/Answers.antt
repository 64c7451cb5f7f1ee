-- `lay_old` meets its contract: the old words so far are laid. Assumes nothing.
use mathlib.Core.Path.{refl, sym, ap, ◌∙◌}
use Prim.Native.Nat.{◌+◌, ◌≤◌}
use native.Mathlib.Omega.{arith}
use lib.ListN.{length, set}
use Rattle.sheet.proofs.Laying.{laid_next, laid_kept, laid_whole}
use Rattle.kept.specs.Narrow.{old_of}
use Rattle.kept.proofs.Narrowing.{old_length, old_at}
use Rattle.kept.proofs.lay_old.Goals as goal

pub loop-i-init : goal.loop-i-init
loop-i-init c = (omega arith, refl, refl)

pub bounds-old-i : goal.bounds-old-i
bounds-old-i c =
    omega (arith, c.loop-i-test.true, old_length c.args.sheet.now, c.loop-i.invariant.2, c.requires)

pub loop-i-preserved : goal.loop-i-preserved
loop-i-preserved c =
    let a = c.args in
    let l = c.loop-i in
    let words = old_of a.sheet.now in
    let e = old_length a.sheet.now in
    let h : l.i + 1 ≤ length words = omega (arith, c.loop-i-test.true, e) in
    let n =
    ap (set l.old l.i) (c.without_bit.ensures ∙ sym (old_at a.sheet.now l.i (omega (arith, h))))
    ∙ laid_next words a.old.now c.requires l.i l.old (omega (arith, h)) l.invariant.1 in
    (h, n, laid_kept words a.old.now c.requires (l.i + 1) _ h n)

pub returns : goal.returns
returns c =
    let a = c.args in
    let l = c.loop-i in
    laid_whole (old_of a.sheet.now) a.old.now c.requires l.i l.old (omega (arith, l.invariant.0, c.loop-i-test.false, old_length a.sheet.now)) l.invariant.1
