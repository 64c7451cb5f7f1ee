-- `decode` meets its contract: the signed types by their widths, or what is left. Assumes nothing.
use borrow.Author.Tests.{ne_eqb}
use Rattle.value.specs.Kinds.{among, width_of}
use Rattle.value.specs.Scalar.{bits_of, decoded_of}
use borrow.Author.Rules.{rules}
use Rattle.value.proofs.decode.Goals as goal

pub returns-in-3 : goal.returns-in-3
unfolding among width_of bits_of decoded_of
returns-in-3 c = simp (c.in-3.is, c.signed.ensures, c.u8_at.ensures, c.from.ensures)

pub returns-in-5 : goal.returns-in-5
unfolding among width_of bits_of decoded_of
returns-in-5 c = simp (c.in-5.is, c.signed-in-5.ensures, c.u16_at.ensures, c.from-in-5.ensures)

pub returns-in-7 : goal.returns-in-7
unfolding among width_of bits_of decoded_of
returns-in-7 c = simp (c.in-7.is, c.signed-in-7.ensures, c.u32_at.ensures, c.from-in-7.ensures)

pub returns-in-9 : goal.returns-in-9
unfolding among width_of bits_of decoded_of
returns-in-9 c = simp (c.in-9.is, c.signed-in-9.ensures, c.u64_at.ensures)

pub returns-in_default : goal.returns-in_default
unfolding among decoded_of
returns-in_default c =
    let k = c.args.code in
    let r = c.in_default.in_default-own.rest in
    simp (ne_eqb k 0x03 r.0.0.0.1, ne_eqb k 0x05 r.0.0.1, ne_eqb k 0x07 r.0.1, ne_eqb k 0x09 r.1, c.unsigned.ensures)
