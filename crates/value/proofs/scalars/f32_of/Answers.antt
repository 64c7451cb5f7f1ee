-- `f32_of` meets its contract: a NaN, or the float of the bits. Assumes nothing.
use lib.Ieee.{div, of_bits, binary32}
use Rattle.value.proofs.Reals.{a_nan, no_nan}
use borrow.Author.Rules.{rules}
use Rattle.value.proofs.scalars.f32_of.Goals as goal

pub float_from_bits-result : goal.float_from_bits-result
float_from_bits-result c = no_nan binary32 c.args.bits c.if-bits-gt2139095040.false

pub returns-then-bits-gt2139095040 : goal.returns-then-bits-gt2139095040
unfolding div of_bits
returns-then-bits-gt2139095040 c = a_nan binary32 c.args.bits c.if-bits-gt2139095040.true
