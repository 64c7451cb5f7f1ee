-- `crc32::eights` meets its contract. The loop's invariant: c is what the first k eights make of the start. Assumes nothing.
use mathlib.Core.Path.{◌≡◌, refl, ap, ◌∙◌}
use Prim.Native.Nat.{◌+◌, ◌*◌}
use native.Mathlib.Omega.{arith}
use lib.ListN.{take, drop}
use Rattle.crc32.specs.Crc.{crc_over}
use Rattle.crc32.proofs.Lists.{more}
use Rattle.crc32.proofs.eights.Goals as goal

pub loop-k-init : goal.loop-k-init
unfolding crc_over
loop-k-init c = refl

pub loop-k-preserved : goal.loop-k-preserved
loop-k-preserved c =
    let a = c.args in
    let s = a.s.now in
    let k = c.loop-k.k in
    let e : 8 * k + 8 ≡ 8 * (k + 1) = omega arith in
    c.eight-c.ensures ∙ ap (λ x. crc_over x (take 8 (drop (8 * k) s))) c.loop-k.invariant ∙ more s (8 * k) a.first 8
    ∙ ap (λ n. crc_over a.first (take n s)) e
