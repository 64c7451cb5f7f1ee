-- An open token, by what is known before its name. Assumes nothing.
use mathlib.Core.Path.{◌≡◌, refl, ◌∙◌}
use mathlib.Core.Bool.{Bool, true, false}
use mathlib.Core.List.{List}
use Prim.Native.Nat.{ℕ}
use lib.Dec.{eqb}
use Rattle.cursor.specs.Answer.{Answer, given, refused, ◌then◌, pick}
use Rattle.cursor.specs.Reads.{number_at}
use Rattle.name.specs.Name.{name_at}
use Rattle.tokens.specs.Token.{open_kind, named_gist, open_of, open_at}
use Rattle.tokens.specs.Pieces.{lead, open_lead, named_after_lead, list_size_at, dependency_at, numbers_after_dependency, numbers_at}
use Rattle.tokens.specs.declared.Flags.{Flags}
use Rattle.tokens.specs.declared.plain.Gist.{Gist}

-- a number that is handed on after another is read
passed : {A B : Type 0} (a : Answer A) (d : ℕ) (k : ℕ → ℕ → Answer B) → (a then λ _ at. k d at) ≡ ((a then λ _ at. given d at) then k)
passed (given x n) d k = refl
passed (refused x p) d k = refl

same : {A B : Type 0} (a : Answer A) (f g : A → ℕ → Answer B) → ((x : A) (n : ℕ) → f x n ≡ g x n) → (a then f) ≡ (a then g)
same (given x n) f g h = h x n
same (refused x p) f g h = refl

module _ (s : List ℕ) (inline announced : Bool) where
  -- an open token from its name on
  abbrev named : ℕ → ℕ → Answer Gist
  named d at =
      name_at s at inline then λ name at.
      list_size_at s announced at then λ _ at.
      given (open_of d announced name) at

  by_lead : (b : Bool) (d at : ℕ) → (name_at s at inline then λ name at. list_size_at s announced at then λ _ at. given (pick b (named_gist open_kind 0 false announced name) (named_gist open_kind d true announced name)) at) ≡ named_after_lead s inline (pick b (lead open_kind 0 false announced) (lead open_kind d true announced)) at
  by_lead true d at = refl
  by_lead false d at = refl

  after : (a : Answer ℕ) → (a then λ d at. number_at s at 4 then λ _ at. named d at) ≡ ((a then numbers_after_dependency s) then named)
  after (given d n) = passed (number_at s n 4) d named
  after (refused x p) = refl

-- an open token: its numbers, its name, and what comes after it
pub open_is : (s : List ℕ) (f : Flags) (announced : Bool) (at : ℕ)
    → open_at s f announced at ≡ (numbers_at s f.dependencies at then λ d at. named_after_lead s f.inline (open_lead d announced) at)
open_is s f announced at =
    after s f.inline announced (dependency_at s f.dependencies at)
    ∙ same (numbers_at s f.dependencies at) _ _ (λ d n. by_lead s f.inline announced (eqb d 0xFFFF) d n)
