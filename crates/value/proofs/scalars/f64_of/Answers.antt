-- `f64_of` meets its contract: a NaN, or the float of the bits. Assumes nothing.
use lib.Ieee.{div, of_bits, binary64}
use Rattle.value.proofs.Reals.{a_nan, no_nan}
use borrow.Author.Rules.{rules}
use Rattle.value.proofs.scalars.f64_of.Goals as goal

pub float_from_bits-result : goal.float_from_bits-result
float_from_bits-result c = no_nan binary64 c.args.bits c.if-bits-gt9218868437227405312.false

pub returns-then-bits-gt9218868437227405312 : goal.returns-then-bits-gt9218868437227405312
unfolding div of_bits
returns-then-bits-gt9218868437227405312 c = a_nan binary64 c.args.bits c.if-bits-gt9218868437227405312.true
