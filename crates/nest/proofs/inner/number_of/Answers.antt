-- `number_of` meets its contract. Assumes nothing.
use native.Mathlib.Omega.{arith}
use Rattle.nest.proofs.Numbers.{number_in, number_last, number_out}
use Rattle.nest.proofs.inner.number_of.Goals as goal

pub returns-then-i-k : goal.returns-then-i-k
returns-then-i-k c =
    let l = c.if-i-k.true in
    (number_in c.args.numbers.now c.args.k c.args.n c.requires.k_in_bounds c.args.i l, omega (arith, c.requires.numbered.1 c.args.i l, c.requires.numbered.0))

pub returns-then-i-k-2 : goal.returns-then-i-k-2
returns-then-i-k-2 c =
    (number_last c.args.numbers.now c.args.k c.args.n c.requires.k_in_bounds c.args.i c.if-i-k-2.true, c.requires.numbered.0)

pub returns : goal.returns
returns c =
    (number_out c.args.numbers.now c.args.k c.args.n c.requires.k_in_bounds c.args.i (omega (arith, c.if-i-k.false, c.if-i-k-2.false)), omega arith)
