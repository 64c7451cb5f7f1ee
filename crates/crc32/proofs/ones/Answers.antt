-- `crc32::ones` meets its contract. The loop's invariant: c is what the bytes so far make of the start. Assumes nothing.
use mathlib.Core.Path.{refl, ap, ◌∙◌}
use lib.ListN.{get_or}
use borrow.Author.Rules.{rules}
use Rattle.crc32.specs.Crc.{shift_byte, crc_over}
use Rattle.crc32.proofs.Lists.{one_more}
use Rattle.crc32.proofs.ones.Goals as goal

pub loop-b-init : goal.loop-b-init
unfolding crc_over
loop-b-init c = refl

pub loop-b-preserved : goal.loop-b-preserved
loop-b-preserved c =
    let a = c.args in
    let s = a.s.now in
    let i = c.loop-b.b-index in
    c.one-c.ensures ∙ ap (λ x. shift_byte x (get_or s i 0)) c.loop-b.invariant ∙ one_more s i a.first (search rules)
