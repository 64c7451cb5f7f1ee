-- A signed number by its bits, as the machine makes it. Assumes nothing.
use mathlib.Core.Path.{◌≡◌, refl, sym, ap, subst, ◌∙◌}
use Prim.Native.Nat.{ℕ, zero, suc, ◌-◌, ◌/◌, ◌^◌, ◌≤◌, ◌<◌}
use native.Mathlib.Nat.{zero-add}
use native.Mathlib.Omega.{arith}
use borrow.Author.Tests.{le-leb, lt-leb}
use lib.IntN.{pos, negsuc, ◌-ℤ◌}
use mir.Syntax.{w64}
use mir.Val.{SFits, to_z, of_z}
use mir.ValLaws.{to_z_pos, to_z-of_z}
use Rattle.value.specs.Scalar.{signed_of}

minus_one : (m : ℕ) → negsuc 0 -ℤ pos m ≡ negsuc m
minus_one zero = refl
minus_one (suc m) = ap (λ (k : ℕ). negsuc (suc k)) (zero-add m)

-- the bits are at most the last number of the width, which fits 64 bits
module _ (last bits : ℕ) (fits : last < 2 ^ 64) (h : bits ≤ last) where
  pub lower : bits ≤ last / 2 → to_z w64 bits ≡ signed_of last bits
  lower l = rw (le-leb bits (last / 2) l) (to_z_pos w64 bits (omega arith))

  below_zero : last / 2 < bits → negsuc 0 -ℤ to_z w64 (last - bits) ≡ negsuc (last - bits)
  below_zero l = rw (to_z_pos w64 (last - bits) (omega arith)) (minus_one (last - bits))

  pub upper_fits : last / 2 < bits → SFits w64 (negsuc 0 -ℤ to_z w64 (last - bits))
  upper_fits l = subst (SFits w64) (sym (below_zero l)) (record { sfits = omega arith })

  pub upper : last / 2 < bits → to_z w64 (of_z w64 (negsuc 0 -ℤ to_z w64 (last - bits))) ≡ signed_of last bits
  upper l = to_z-of_z w64 _ (upper_fits l) ∙ below_zero l ∙ rw (lt-leb bits (last / 2) l)
