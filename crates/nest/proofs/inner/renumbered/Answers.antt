-- `renumbered` meets its contract. Assumes nothing.
use native.Mathlib.Omega.{arith}
use Rattle.nest.specs.Pieces.{numbers_to}
use Rattle.nest.proofs.Numbers.{renumbered_is}
use borrow.Author.Rules.{rules}
use Rattle.nest.proofs.inner.renumbered.Goals as goal

pub returns : goal.returns
returns c =
    let a = c.args in
    renumbered_is (numbers_to a.k a.n a.numbers.now) a.word c.number_of.result (omega (arith, c.if-word-eq0.false)) c.number_of.ensures.0
