-- A signed number as the machine has it: its distance from zero. Assumes nothing.
use mathlib.Core.Path.{◌≡◌, refl, sym, ap, subst, ◌∙◌}
use mathlib.Core.Bool.{true, false}
use mathlib.Core.List.{◌++◌}
use Prim.Native.Nat.{ℕ, suc, ◌+◌, ◌-◌, ◌^◌, ◌<◌}
use native.Mathlib.Omega.{arith}
use borrow.Author.Tests.{le-ltb, ltb-true}
use lib.Dec.{T}
use lib.IntN.{ℤ, pos, negsuc, nat_abs, ◌-ℤ◌}
use lib.Signed.{lt_z, non_neg}
use mir.Syntax.{w64}
use mir.Val.{SFits, Fits, to_z, of_z}
use mir.ValLaws.{to_z-of_z}
use Rattle.print.specs.Text.{ascii, decimal_of}
use Rattle.stream_answers.specs.Content.{signed_text}

-- what a number is that the machine has as x, where x is the number n
pub as_number_lem : (x : ℤ) (n : ℕ) → x ≡ pos n → n < 2 ^ 63 → T (non_neg x) × Fits w64 (nat_abs x)
as_number_lem x n e h = subst (λ (y : ℤ). T (non_neg y) × Fits w64 (nat_abs y)) (sym e) (tt, record { fits = omega arith })

minus_one : (n : ℕ) → negsuc 0 -ℤ negsuc n ≡ pos n
minus_one n =
    let e : suc n - 1 ≡ n = omega arith in
    rw (le-ltb (suc n) 1 (omega arith)) (ap pos e)

-- a number below zero
below : (z : ℤ) → SFits w64 z → lt_z (to_z w64 (of_z w64 z)) (pos 0) ≡ true → (n : ℕ) × ((z ≡ negsuc n) × (n < 2 ^ 63))
below (pos n) f h = absurd (omega (arith, ltb-true n 0 (sym (ap (λ (x : ℤ). lt_z x (pos 0)) (to_z-of_z w64 (pos n) f)) ∙ h)))
below (negsuc n) f h = (n, (refl, f.sfits))

-- and one that is not
above : (z : ℤ) → SFits w64 z → lt_z (to_z w64 (of_z w64 z)) (pos 0) ≡ false → (n : ℕ) × ((z ≡ pos n) × (n < 2 ^ 63))
above (pos n) f h = (n, (refl, f.sfits))
above (negsuc n) f h =
    let e : true ≡ false = sym (ap (λ (x : ℤ). lt_z x (pos 0)) (to_z-of_z w64 (negsuc n) f)) ∙ h in
    let y : ◌≡◌ {A = ℕ} 0 1 = cc in absurd (omega arith)

module _ (z : ℤ) (f : SFits w64 z) where
  module _ (h : lt_z (to_z w64 (of_z w64 z)) (pos 0) ≡ true) where
    y : (n : ℕ) × ((z ≡ negsuc n) × (n < 2 ^ 63))
    y = below z f h

    less : negsuc 0 -ℤ to_z w64 (of_z w64 z) ≡ pos y.0
    less = ap (λ (x : ℤ). negsuc 0 -ℤ x) (to_z-of_z w64 z f ∙ y.1.0) ∙ minus_one y.0

    pub less_fits : SFits w64 (negsuc 0 -ℤ to_z w64 (of_z w64 z))
    less_fits = subst (SFits w64) (sym less) (record { sfits = y.1.1 })

    back : to_z w64 (of_z w64 (negsuc 0 -ℤ to_z w64 (of_z w64 z))) ≡ pos y.0
    back = to_z-of_z w64 (negsuc 0 -ℤ to_z w64 (of_z w64 z)) less_fits ∙ less

    pub less_number : T (non_neg (to_z w64 (of_z w64 (negsuc 0 -ℤ to_z w64 (of_z w64 z)))))
        × Fits w64 (nat_abs (to_z w64 (of_z w64 (negsuc 0 -ℤ to_z w64 (of_z w64 z)))))
    less_number = as_number_lem _ y.0 back y.1.1

    pub less_small : nat_abs (to_z w64 (of_z w64 (negsuc 0 -ℤ to_z w64 (of_z w64 z)))) < 2 ^ 63
    less_small = subst (λ (x : ℤ). nat_abs x < 2 ^ 63) (sym back) y.1.1

    pub minus_text : ascii "-" ++ decimal_of (nat_abs (to_z w64 (of_z w64 (negsuc 0 -ℤ to_z w64 (of_z w64 z)))) + 1) ≡ signed_text z
    minus_text = ap (λ (x : ℤ). ascii "-" ++ decimal_of (nat_abs x + 1)) back ∙ ap signed_text (sym y.1.0)

  module _ (h : lt_z (to_z w64 (of_z w64 z)) (pos 0) ≡ false) where
    u : (n : ℕ) × ((z ≡ pos n) × (n < 2 ^ 63))
    u = above z f h

    pub own_number : T (non_neg (to_z w64 (of_z w64 z))) × Fits w64 (nat_abs (to_z w64 (of_z w64 z)))
    own_number = as_number_lem _ u.0 (to_z-of_z w64 z f ∙ u.1.0) u.1.1

    pub plain_text : decimal_of (nat_abs (to_z w64 (of_z w64 z))) ≡ signed_text z
    plain_text = ap (λ (x : ℤ). decimal_of (nat_abs x)) (to_z-of_z w64 z f ∙ u.1.0) ∙ ap signed_text (sym u.1.0)
