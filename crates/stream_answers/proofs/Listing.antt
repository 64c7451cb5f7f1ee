-- The values of an instance, one after the other. Assumes nothing.
use Rattle.std.specs.Prelude as Std
use Rattle.std.specs.Prelude.{Ok, Err, Some, None, Option}
use mathlib.Core.Path.{◌≡◌, refl, sym, ap, subst, ◌∙◌}
use mathlib.Core.List.{List, [], ◌++◌}
use Prim.Native.Nat.{ℕ, zero, suc, ◌-◌, ◌<◌}
use native.Mathlib.Omega.{arith}
use borrow.Author.Tests.{eqb-false}
use lib.Dec.{eqb}
use Rattle.cursor.specs.Answer.{Answer, given, refused, Result, gives, refuses, Maybe, just, nothing}
use Rattle.cursor.specs.Reads.{number_of}
use Rattle.cursor.specs.declared.Refusal.{Refusal}
use Rattle.cursor.proofs.Choice.{either}
use Rattle.value.specs.declared.Value.{Value}
use Rattle.tokens.specs.Instance.{value_step, ValueNext, next_answer, next_given, next_of}
use Rattle.tokens.specs.declared.Values.{Values}
use Rattle.stream_answers.specs.Content.{sized_text}
use Rattle.stream_answers.specs.Token.{next_text, values_from}

-- a value was left, and one fewer is left after it
abbrev Falls : Values → Result (Maybe ValueNext) → Type 0
Falls v (gives (just x)) = (0 < v.left) × (x.rest.left ≡ v.left - 1)
Falls v (gives nothing) = Unit {0}
Falls v (refuses k p) = Unit {0}

given_falls : (v : Values) (size : ℕ) (a : Answer Value) → 0 < v.left → Falls v (next_given v size a)
given_falls v size (given x n) h = (h, refl)
given_falls v size (refused k p) h = tt {0}

falls : (s : List ℕ) (v : Values) → Falls v (next_of s v)
falls s v =
    either (Falls v) (eqb v.left 0) _ _ (λ e. tt {0})
    (λ e. given_falls v (number_of s v.table 2) (value_step s v.table v.at) (omega (arith, eqb-false v.left 0 e)))

module _ (s : List ℕ) (v : Values) (a : Std.Result (Option (Value × ℕ × Values)) Refusal) (e : next_answer a ≡ next_of s v) where
  pub left_falls : (x : Value) (size : ℕ) (next : Values) → a ≡ Ok (Some (x, size, next)) → (0 < v.left) × (next.left ≡ v.left - 1)
  left_falls x size next h = subst (Falls v) (sym e ∙ ap next_answer h) (falls s v)

  from_value : (k : ℕ) (x : Value) (size : ℕ) (next : Values) → a ≡ Ok (Some (x, size, next)) → k ≡ v.left
      → values_from k s v ≡ sized_text s x size next.at ++ values_from next.left s next
  unfolding values_from
  from_value zero x size next h l = absurd (omega (arith, (left_falls x size next h).0))
  from_value (suc k) x size next h l =
      let m : k ≡ next.left = omega (arith, (left_falls x size next h).1) in
      ap (λ (y : Result (Maybe ValueNext)). next_text s y (values_from k s)) (sym e ∙ ap next_answer h) ∙ ap (λ (j : ℕ). sized_text s x size next.at ++ values_from j s next) m

  pub values_next : (x : Value) (size : ℕ) (next : Values) → a ≡ Ok (Some (x, size, next))
      → values_from v.left s v ≡ sized_text s x size next.at ++ values_from next.left s next
  values_next x size next h = from_value v.left x size next h refl

  from_none : (k : ℕ) (b : Std.Result (Option (Value × ℕ × Values)) Refusal) → a ≡ b → ((go : Values → List ℕ) → next_text s (next_answer b) go ≡ []) → values_from k s v ≡ []
  unfolding values_from
  from_none zero b h l = refl
  from_none (suc k) b h l = ap (λ (y : Result (Maybe ValueNext)). next_text s y (values_from k s)) (sym e ∙ ap next_answer h) ∙ l (values_from k s)

  pub values_done : a ≡ Ok None → values_from v.left s v ≡ []
  values_done h = from_none v.left (Ok None) h (λ go. refl)

  pub values_refused : (r : Refusal) → a ≡ Err r → values_from v.left s v ≡ []
  values_refused r h = from_none v.left (Err r) h (λ go. refl)
