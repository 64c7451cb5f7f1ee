-- `unsigned` meets its contract: the types of each width, or what is left. Assumes nothing.
use mathlib.Core.Path.{◌≡◌}
use mathlib.Core.List.{[], ◌∷◌}
use mathlib.Core.Logic.{inl, inr}
use borrow.Author.Tests.{ne_eqb}
use Rattle.cursor.specs.Reads.{number_of}
use Rattle.value.specs.Kinds.{among, width_of}
use Rattle.value.specs.Scalar.{decoding_answer, bits_of, decoded, unsigned_of}
use Rattle.value.specs.declared.Scalar.TheVariants.{Unsigned}
use Rattle.value.proofs.Codes.{in_arm}
use borrow.Author.Rules.{rules}
use Rattle.value.proofs.scalars.unsigned.Goals as goal

pub returns-in-4 : goal.returns-in-4
unfolding among width_of bits_of unsigned_of
returns-in-4 c = simp (c.in-4.is, c.whole.ensures, c.u8_at.ensures, c.from.ensures)

pub returns-in-6 : goal.returns-in-6
unfolding among width_of bits_of unsigned_of
returns-in-6 c = simp (c.in-6.is, c.whole-in-6.ensures, c.u16_at.ensures, c.from-in-6.ensures)

pub returns-in-8 : goal.returns-in-8
unfolding among width_of bits_of unsigned_of
returns-in-8 c =
    let b = c.args.bytes.now in
    let n = number_of b 0 4 in
    let e : decoding_answer c.whole-in-8.result ≡ decoded n (Unsigned n) = simp (c.whole-in-8.ensures, c.u32_at.ensures, c.from-in-8.ensures) in
    in_arm (λ i. decoding_answer c.whole-in-8.result ≡ unsigned_of i (bits_of i b)) (0x08 ∷ 0x0D ∷ 0x14 ∷ []) (e, (e, (e, tt))) c.args.code c.in-8.is

pub returns-in-10 : goal.returns-in-10
unfolding among width_of bits_of unsigned_of
returns-in-10 c =
    let b = c.args.bytes.now in
    let n = number_of b 0 8 in
    let e : decoding_answer c.whole-in-10.result ≡ decoded n (Unsigned n) = simp (c.whole-in-10.ensures, c.u64_at.ensures) in
    in_arm (λ i. decoding_answer c.whole-in-10.result ≡ unsigned_of i (bits_of i b)) (0x0A ∷ 0x11 ∷ 0x15 ∷ []) (e, (e, (e, tt))) c.args.code c.in-10.is

pub returns-in-16 : goal.returns-in-16
unfolding among width_of bits_of unsigned_of
returns-in-16 c = simp (c.in-16.is, c.whole-in-16.ensures, c.u64_at-in-16.ensures)

pub returns-in_default : goal.returns-in_default
unfolding among unsigned_of
returns-in_default c =
    let k = c.args.code in
    let r = c.in_default.in_default-own.rest in
    simp (ne_eqb k 0x04 r.0.0.0.0.1, ne_eqb k 0x06 r.0.0.0.1, ne_eqb k 0x08 (λ e. r.0.0.1 (inl e)), ne_eqb k 0x0D (λ e. r.0.0.1 (inr (inl e))), ne_eqb k 0x14 (λ e. r.0.0.1 (inr (inr e))), ne_eqb k 0x0A (λ e. r.0.1 (inl e)), ne_eqb k 0x11 (λ e. r.0.1 (inr (inl e))), ne_eqb k 0x15 (λ e. r.0.1 (inr (inr e))), ne_eqb k 0x10 r.1, c.real.ensures)
