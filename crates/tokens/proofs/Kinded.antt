-- A token's kind is from 1 to 13. Assumes nothing.
use mathlib.Core.Bool.{Bool, false}
use mathlib.Core.List.{List}
use Prim.Native.Nat.{ℕ, ◌≤◌}
use native.Mathlib.Omega.{arith}
use lib.Dec.{eqb}
use Rattle.cursor.specs.Answer.{Answer, given, refused, ◌then◌}
use Rattle.cursor.specs.Reads.{number_at}
use Rattle.cursor.specs.Text.{prefixed_at}
use Rattle.cursor.proofs.Choice.{either}
use Rattle.name.specs.Name.{name_at}
use Rattle.name.specs.declared.Name.{Name}
use Rattle.value.specs.Value.{unsized_at}
use Rattle.tokens.specs.Token.{open_of, open_at, type_at, substitution_at}
use Rattle.tokens.specs.Instance.{instance_head_at, values_at, instance_at}
use Rattle.tokens.specs.Pieces.{dependency_at, list_size_at}
use Rattle.tokens.specs.Table.{gist_at}
use Rattle.tokens.specs.declared.Flags.{Flags}
use Rattle.tokens.specs.declared.plain.Gist.{Gist}
use Rattle.tokens.proofs.Table.{by_line}

abbrev pub Kinded : Answer Gist → Type 0
Kinded (given g n) = (1 ≤ g.kind) × (g.kind ≤ 13)
Kinded (refused k p) = Unit {0}

-- whatever was read before
later : {A : Type 0} (a : Answer A) (f : A → ℕ → Answer Gist) → ((x : A) (n : ℕ) → Kinded (f x n)) → Kinded (a then f)
later (given x n) f g = g x n
later (refused k p) f g = tt {0}

open_kinded : (d : ℕ) (announced : Bool) (name : Name) (n : ℕ) → Kinded (given (open_of d announced name) n)
open_kinded d announced name n = either (λ (g : Gist). Kinded (given g n)) (eqb d 0xFFFF) _ _ (λ e. (omega arith, omega arith)) (λ e. (omega arith, omega arith))

module _ (s : List ℕ) where
  opened : (f : Flags) (announced : Bool) (at : ℕ) → Kinded (open_at s f announced at)
  opened f announced at =
      later (dependency_at s f.dependencies at) _ (λ d n.
      later (number_at s n 4) _ (λ _ m.
      later (name_at s m f.inline) _ (λ name e.
      later (list_size_at s announced e) _ (λ _ z. open_kinded d announced name z))))

  substitution : (optional : Bool) (at : ℕ) → Kinded (substitution_at s optional at)
  substitution optional at = later (number_at s at 2) _ (λ n m. later (type_at s m) _ (λ _ e. (omega arith, omega arith)))

  whole_instance : (at : ℕ) → Kinded (instance_at s at)
  whole_instance at =
      later (instance_head_at s at) _ (λ i n. later (values_at s i.table n i.count) _ (λ _ e. (omega arith, omega arith)))

  pub gist_kinded : (f : Flags) (b at : ℕ) → Kinded (gist_at s f b at)
  gist_kinded f b at =
      by_line Kinded s f b at (record {
        instance = whole_instance at;
        opened = λ announced. opened f announced at;
        bare = λ kind l h. (l, h);
        value = later (unsized_at s at) _ (λ v n. (omega arith, omega arith));
        named = λ kind l h. later (name_at s at f.inline) _ (λ name n. (l, h));
        text = λ kind l h. later (prefixed_at s at false) _ (λ view n. (l, h));
        char = later (number_at s at 2) _ (λ char n. (omega arith, omega arith));
        substitution = λ optional. substitution optional at;
        unknown = tt {0};
      })
