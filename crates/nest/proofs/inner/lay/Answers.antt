-- `lay` meets its contract: the owners of the first i tokens are set. Assumes nothing.
use mathlib.Core.Path.{refl, sym, ◌∙◌}
use native.Mathlib.Omega.{arith}
use lib.Seq.{length-take-le}
use Rattle.nest.proofs.Numbers.{set_next, set_none}
use borrow.Author.Rules.{rules}
use Rattle.nest.proofs.inner.lay.Goals as goal

pub loop-i-preserved : goal.loop-i-preserved
loop-i-preserved c =
    let l = c.loop-i in
    (omega (arith, c.loop-i-test.true), set_next c.args.numbers.now c.args.words.now l.table _ c.args.k c.args.n l.i _ _ c.loop-i-test.true c.requires.k_in_bounds.0 c.requires.k_in_bounds.1 refl c.renumbered.ensures c.put.ensures ∙ l.invariant.1, search rules)

pub returns : goal.returns
returns c =
    let l = c.loop-i in
    sym (set_none _ _ l.table l.i (omega (arith, c.loop-i-test.false, length-take-le c.args.k c.args.numbers.now c.requires.k_in_bounds.0))) ∙ l.invariant.1
