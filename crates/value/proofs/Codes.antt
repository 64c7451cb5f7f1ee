-- A test that is computed at each code of a range holds of them all. Assumes nothing.
use mathlib.Core.Path.{◌≡◌, refl, sym, ap, subst, ◌∙◌}
use mathlib.Core.Logic.{inl, inr}
use mathlib.Core.List.{List, [], ◌∷◌}
use mathlib.Core.Bool.{Bool, true, false, ◌&&◌, ◌||◌, false≢true, beq}
use Prim.Native.Nat.{ℕ, zero, suc, ◌+◌, ◌≤◌, ◌<◌}
use native.Mathlib.Omega.{arith}
use native.Mathlib.Decide.{dec_le}
use lib.Dec.{T}
use mir.Val.{has_key}
use types.Run.{OneOf, hit}

-- the test holds at n codes from the first on
abbrev pub every : (ℕ → Bool) → ℕ → ℕ → Bool
every f first zero = true
every f first (suc n) = f first && every f (suc first) n

both_left : (a b : Bool) → (a && b) ≡ true → a ≡ true
both_left true b e = refl
both_left false b e = e

both_right : (a b : Bool) → (a && b) ≡ true → b ≡ true
both_right true b e = e
both_right false b e = absurd (false≢true e)

all : (f : ℕ → Bool) (n first : ℕ) → every f first n ≡ true → (k : ℕ) → first ≤ k → k < first + n → f k ≡ true
all f zero first e k a b = absurd (omega arith)
all f (suc n) first e k a b =
    elim (dec_le (suc first) k) [
      | yes h ↦ all f n (suc first) (both_right (f first) (every f (suc first) n) e) k h (omega arith)
      | no h ↦
          let i : k ≡ first = omega arith in
          ap f i ∙ both_left (f first) (every f (suc first) n) e
    ]

beq_true : (a b : Bool) → beq a b ≡ true → a ≡ b
beq_true true true e = refl
beq_true true false e = sym e
beq_true false true e = e
beq_true false false e = refl

-- two tests that agree at n codes from the first on
pub same_test : (f g : ℕ → Bool) (n first : ℕ) → every (λ k. beq (f k) (g k)) first n ≡ true → (k : ℕ) → first ≤ k → k < first + n → f k ≡ g k
same_test f g n first e k a b = beq_true (f k) (g k) (all (λ i. beq (f i) (g i)) n first e k a b)

-- the keys of a match's arms, the last arm's first: a code is one of them, or none
abbrev pub keyed : List (List ℕ) → ℕ → Bool
keyed [] k = false
keyed (l ∷ ls) k = has_key l k || keyed ls k

abbrev pub NoneOf : List (List ℕ) → ℕ → Type 0
NoneOf [] k = Unit {0}
NoneOf (l ∷ ls) k = NoneOf ls k × (OneOf l k → ⊥)

not-true : (b : Bool) → (T b → ⊥) → b ≡ false
not-true true h = absurd (h tt)
not-true false h = refl

not_keyed : (ls : List (List ℕ)) (k : ℕ) → NoneOf ls k → keyed ls k ≡ false
not_keyed [] k n = refl
not_keyed (l ∷ ls) k n = rw (not-true (has_key l k) (λ h. n.1 (hit l k h))) (not_keyed ls k n.0)

-- a test that holds at each code but the keys holds in the arm `_`
pub elsewhere : (t : ℕ → Bool) (ls : List (List ℕ)) → every (λ k. keyed ls k || t k) 0 256 ≡ true → (k : ℕ) → k < 256 → NoneOf ls k → t k ≡ true
elsewhere t ls e k h n = rw (not_keyed ls k n) at (all (λ i. keyed ls i || t i) 256 0 e k (omega arith) (omega arith))

-- what holds at each key of an arm holds in the arm
abbrev pub Each : (ℕ → Type 0) → List ℕ → Type 0
Each P [] = Unit {0}
Each P (x ∷ l) = P x × Each P l

pub in_arm : (P : ℕ → Type 0) (l : List ℕ) → Each P l → (k : ℕ) → OneOf l k → P k
in_arm P [] e k o = absurd o
in_arm P (x ∷ []) e k o = subst P (sym o) e.0
in_arm P (x ∷ (y ∷ l)) e k (inl o) = subst P (sym o) e.0
in_arm P (x ∷ (y ∷ l)) e k (inr o) = in_arm P (y ∷ l) e.1 k o
