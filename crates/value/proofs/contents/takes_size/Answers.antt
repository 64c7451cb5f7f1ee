-- `takes_size` meets its contract: at each key of an arm, and at each code that is none of them. Assumes nothing.
use mathlib.Core.Path.{◌≡◌, refl, sym, ap}
use mathlib.Core.Bool.{true, not}
use mathlib.Core.List.{[], ◌∷◌}
use native.Mathlib.Omega.{arith}
use borrow.Author.Tests.{not-true}
use Rattle.value.specs.Kinds.{among}
use Rattle.value.specs.Value.{takes_size}
use Rattle.value.proofs.Codes.{elsewhere, in_arm}
use Rattle.value.proofs.contents.takes_size.Goals as goal

pub returns-in-2 : goal.returns-in-2
unfolding among
returns-in-2 c = in_arm (λ i. true ≡ takes_size i) (0x02 ∷ 0x0E ∷ 0x21 ∷ 0x81 ∷ []) (refl, (refl, (refl, (refl, tt)))) c.args.code c.in-2.is

pub returns-in-130 : goal.returns-in-130
unfolding among
returns-in-130 c = sym (ap takes_size c.in-130.is)

pub returns-in_default : goal.returns-in_default
unfolding among
returns-in_default c =
    let k = c.args.code in
    sym (not-true (takes_size k) (elsewhere (λ i. not (takes_size i)) ((0x82 ∷ []) ∷ (0x02 ∷ 0x0E ∷ 0x21 ∷ 0x81 ∷ []) ∷ []) refl k (omega arith) c.in_default.in_default-own.rest))
