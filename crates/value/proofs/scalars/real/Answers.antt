-- `real` meets its contract: one of two types, or no number. Assumes nothing.
use borrow.Author.Tests.{ne_eqb}
use Rattle.value.specs.Kinds.{among, width_of}
use Rattle.value.specs.Scalar.{bits_of, real_of}
use borrow.Author.Rules.{rules}
use Rattle.value.proofs.scalars.real.Goals as goal

pub returns-in-11 : goal.returns-in-11
unfolding among width_of bits_of real_of
returns-in-11 c = simp (c.in-11.is, c.decoded.ensures, c.from.ensures, c.f32_of.ensures, c.u32_at-bits.ensures)

pub returns-in-12 : goal.returns-in-12
unfolding among width_of bits_of real_of
returns-in-12 c = simp (c.in-12.is, c.decoded-in-12.ensures, c.f64_of.ensures, c.u64_at-bits.ensures)

pub returns-in_default : goal.returns-in_default
unfolding among width_of bits_of real_of
returns-in_default c =
    let k = c.args.code in
    simp (ne_eqb k 0x0B c.in_default.in_default-own.rest.0.1, ne_eqb k 0x0C c.in_default.in_default-own.rest.1)
