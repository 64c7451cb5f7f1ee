-- `signed_of` meets its contract: the lower half of the bits, or the upper. Assumes nothing.
use native.Mathlib.Omega.{arith}
use Rattle.value.proofs.Signs.{lower, upper_fits, upper}
use borrow.Author.Rules.{rules}
use Rattle.value.proofs.scalars.signed_of.Goals as goal

pub overflow_sub-result-else-bits-last : goal.overflow_sub-result-else-bits-last
overflow_sub-result-else-bits-last c =
    let a = c.args in
    upper_fits a.last a.bits (omega arith) (omega arith) c.if-bits-last.false

pub returns-then-bits-last : goal.returns-then-bits-last
returns-then-bits-last c =
    let a = c.args in
    lower a.last a.bits (omega arith) (omega arith) c.if-bits-last.true

pub returns-else-bits-last : goal.returns-else-bits-last
returns-else-bits-last c =
    let a = c.args in
    upper a.last a.bits (omega arith) (omega arith) c.if-bits-last.false
