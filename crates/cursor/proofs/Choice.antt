-- Laws of choices. Assumes nothing.
use mathlib.Core.Path.{◌≡◌, refl}
use mathlib.Core.Bool.{Bool, true, false}
use Prim.Native.Nat.{ℕ}
use Rattle.cursor.specs.Answer.{Answer, refused, ◌then◌, must, pick}

-- what holds of both choices, each under its test, holds of the choice
pub either : {A : Type 0} (P : A → Type 0) (b : Bool) (x y : A) → (b ≡ true → P x) → (b ≡ false → P y) → P (pick b x y)
either P true x y f g = f refl
either P false x y f g = g refl

-- what holds of what comes after a test, and of the refusal, holds of both together
pub tested : {A : Type 0} (P : Answer A → Type 0) (b : Bool) (k p : ℕ) (f : Unit → ℕ → Answer A) → (b ≡ true → P (f tt p)) → (b ≡ false → P (refused k p))
    → P (must b k p then f)
tested P true k p f g h = g refl
tested P false k p f g h = h refl
