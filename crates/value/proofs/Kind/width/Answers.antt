-- `Kind::width` meets its contract: at each key of an arm, and at each code that is none of them. Assumes nothing.
use mathlib.Core.Path.{◌≡◌, refl, sym, ap}
use mathlib.Core.List.{[], ◌∷◌}
use native.Mathlib.Omega.{arith}
use borrow.Author.Tests.{eqb-true}
use lib.Dec.{eqb}
use Rattle.value.specs.Kinds.{among, width_of}
use Rattle.value.proofs.Codes.{elsewhere, in_arm}
use Rattle.value.proofs.Kind.width.Goals as goal

pub returns-in-3 : goal.returns-in-3
unfolding among width_of
returns-in-3 c = sym (ap width_of c.in-3.is)

pub returns-in-4 : goal.returns-in-4
unfolding among width_of
returns-in-4 c = sym (ap width_of c.in-4.is)

pub returns-in-5 : goal.returns-in-5
unfolding among width_of
returns-in-5 c = sym (ap width_of c.in-5.is)

pub returns-in-6 : goal.returns-in-6
unfolding among width_of
returns-in-6 c = sym (ap width_of c.in-6.is)

pub returns-in-7 : goal.returns-in-7
unfolding among width_of
returns-in-7 c = in_arm (λ i. 4 ≡ width_of i) (0x07 ∷ 0x0B ∷ 0x0D ∷ 0x14 ∷ []) (refl, (refl, (refl, (refl, tt)))) c.args.code c.in-7.is

pub returns-in-8 : goal.returns-in-8
unfolding among width_of
returns-in-8 c = sym (ap width_of c.in-8.is)

pub returns-in-9 : goal.returns-in-9
unfolding among width_of
returns-in-9 c = in_arm (λ i. 8 ≡ width_of i) (0x09 ∷ 0x0C ∷ 0x11 ∷ 0x15 ∷ []) (refl, (refl, (refl, (refl, tt)))) c.args.code c.in-9.is

pub returns-in-10 : goal.returns-in-10
unfolding among width_of
returns-in-10 c = sym (ap width_of c.in-10.is)

pub returns-in-15 : goal.returns-in-15
unfolding among width_of
returns-in-15 c = in_arm (λ i. 16 ≡ width_of i) (0x0F ∷ 0x12 ∷ []) (refl, (refl, tt)) c.args.code c.in-15.is

pub returns-in_default : goal.returns-in_default
unfolding among width_of
returns-in_default c =
    let k = c.args.code in
    eqb-true 0 (width_of k) (elsewhere (λ i. eqb 0 (width_of i)) ((0x0F ∷ 0x12 ∷ []) ∷ (0x0A ∷ []) ∷ (0x09 ∷ 0x0C ∷ 0x11 ∷ 0x15 ∷ []) ∷ (0x08 ∷ []) ∷ (0x07 ∷ 0x0B ∷ 0x0D ∷ 0x14 ∷ []) ∷ (0x06 ∷ []) ∷ (0x05 ∷ []) ∷ (0x04 ∷ []) ∷ (0x03 ∷ []) ∷ []) refl k (omega arith) c.in_default.in_default-own.rest)
