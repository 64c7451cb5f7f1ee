-- `load` meets its contract: the words so far are laid. Assumes nothing.
use mathlib.Core.Path.{◌≡◌, refl, sym, ap, ◌∙◌}
use Prim.Native.Nat.{◌+◌, ◌-◌, ◌*◌, ◌≤◌}
use native.Mathlib.Omega.{arith}
use borrow.Author.Rules.{rules}
use lib.ListN.{length, take, set}
use Rattle.cursor.specs.Lent.{laid}
use Rattle.sheet.proofs.Laying.{laid_next, laid_kept, laid_whole}
use Rattle.stream_answers.specs.Kept.{stored_words, most_given}
use Rattle.stream_answers.proofs.Stored.{stored_length, stored_at, laid_all}
use Rattle.stream_answers.proofs.keeping.load.Goals as goal

pub loop-i-init : goal.loop-i-init
loop-i-init c = (omega arith, c.requires, refl, refl)

pub loop-i-preserved : goal.loop-i-preserved
loop-i-preserved c =
    let a = c.args in
    let l = c.loop-i in
    let n = length a.words.now in
    let W = stored_words n a.bytes.now 8 in
    let z : length W ≡ n = stored_length n a.bytes.now 8 in
    let room : length W ≤ n = omega (arith, z) in
    let h : l.i + 1 ≤ n = omega (arith, l.invariant.3) in
    let k : l.i + 1 ≤ length W = omega (arith, h, z) in
    let e =
    ap (set l.words l.i) (c.u64_at.ensures ∙ sym (stored_at n a.bytes.now 8 l.i (omega (arith, h))))
    ∙ laid_next W a.words.now room l.i l.words (omega (arith, k)) l.invariant.2 in
    (h, l.invariant.1, e, laid_kept W a.words.now room (l.i + 1) _ k e)

pub shape_of-words : goal.shape_of-words
shape_of-words c = c.loop-i.invariant.3

pub returns : goal.returns
returns c =
    let a = c.args in
    let l = c.loop-i in
    let n = length a.words.now in
    let W = stored_words n a.bytes.now 8 in
    let z : length W ≡ n = stored_length n a.bytes.now 8 in
    let room : length W ≤ n = omega (arith, z) in
    laid_whole W a.words.now room l.i l.words (omega (arith, z, l.invariant.0, l.invariant.3)) l.invariant.2 ∙ laid_all W a.words.now z
