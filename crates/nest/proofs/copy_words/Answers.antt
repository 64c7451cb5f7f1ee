-- `copy_words` meets its contract: the words so far are laid. Assumes nothing.
use mathlib.Core.Path.{refl}
use Prim.Native.Nat.{◌+◌, ◌≤◌}
use native.Mathlib.Omega.{arith}
use lib.ListN.{length}
use Rattle.sheet.proofs.Laying.{laid_next, laid_kept, laid_whole}
use Rattle.nest.proofs.copy_words.Goals as goal

pub loop-i-init : goal.loop-i-init
loop-i-init c = (omega arith, refl, refl)

pub loop-i-preserved : goal.loop-i-preserved
loop-i-preserved c =
    let a = c.args in
    let l = c.loop-i in
    let h = c.loop-i-test.true in
    let n = laid_next a.words.now a.sheet.now c.requires l.i l.sheet h l.invariant.1 in
    (omega (arith, h), n, laid_kept a.words.now a.sheet.now c.requires (l.i + 1) _ (omega (arith, h)) n)

pub returns : goal.returns
returns c =
    let a = c.args in
    let l = c.loop-i in
    laid_whole a.words.now a.sheet.now c.requires l.i l.sheet (omega (arith, l.invariant.0, c.loop-i-test.false)) l.invariant.1
