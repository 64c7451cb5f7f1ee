-- `load` meets its contract: the words so far are laid. Assumes nothing.
use mathlib.Core.Path.{◌≡◌, sym, ap, ◌∙◌}
use Prim.Native.Nat.{◌+◌, ◌≤◌}
use native.Mathlib.Omega.{arith}
use lib.ListN.{length, set}
use Rattle.sheet.proofs.Laying.{laid_next, laid_whole}
use Rattle.stream_answers.specs.Kept.{stored_words}
use Rattle.stream_answers.proofs.Stored.{stored_length, stored_at, laid_all}
use Rattle.merge_answers.proofs.load.Goals as goal

pub loop-i-preserved : goal.loop-i-preserved
loop-i-preserved c =
    let a = c.args in
    let l = c.loop-i in
    let n = length a.words.now in
    let W = stored_words n a.bytes.now a.from in
    let z : length W ≡ n = stored_length n a.bytes.now a.from in
    ap (set l.words l.i) (c.u64_at.ensures ∙ sym (stored_at n a.bytes.now a.from l.i (omega (arith, c.loop-i-test.true))))
    ∙ laid_next W a.words.now (omega (arith, z)) l.i l.words (omega (arith, c.loop-i-test.true, z)) l.invariant

pub returns : goal.returns
returns c =
    let a = c.args in
    let l = c.loop-i in
    let n = length a.words.now in
    let W = stored_words n a.bytes.now a.from in
    let z : length W ≡ n = stored_length n a.bytes.now a.from in
    laid_whole W a.words.now (omega (arith, z)) l.i l.words (omega (arith, z, c.loop-i-test.false)) l.invariant ∙ laid_all W a.words.now z
