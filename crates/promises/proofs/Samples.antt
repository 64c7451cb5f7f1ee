-- The samples of documents 01 and 02 hold: computed on the definitions that the contracts cite. Assumes nothing.
use mathlib.Core.Path.{◌≡◌, refl, subst}
use Prim.Native.Nat.{ℕ}
use Rattle.cursor.specs.Reads.{little, array_at}
use Rattle.cursor.specs.Text.{units_of, before_zero}
use Rattle.cursor.specs.Answer.{Result}
use Rattle.name.specs.Hash.{hash_from}
use Rattle.name.specs.Name.{units_at}
use Rattle.value.specs.Kinds.{among, known_code, width_of}
use Rattle.value.specs.Value.{sized_at, unsized_at}
use Rattle.tokens.specs.Instance.{table_at, values_at}
use Rattle.tokens.specs.Single.{single_of}
use Rattle.tokens.specs.Table.{gist_at}
use Rattle.tokens.specs.Walk.{Walked, turn_at, step_from, walk_from, walk_of}
use Rattle.body.specs.Verdict.{Both, Answered}
use Rattle.body.specs.Grammar.{kind_of}
use Rattle.body.specs.Reader.{opening, turn, ended, outcome, words_from}
use Rattle.body.proofs.Answers.{answer_of, left_of, answer_holds}
use Rattle.promises.specs.Samples.{All, samples}

infixr 5 ◌and◌
abbrev ◌and◌ : {A B : Type 0} → A → B → A × B
a and b = (a, b)

-- what the reader computes for a walk is what the grammar says of it
a_body : (w : Walked) (lent : Both) (r : Result ℕ) (left : Both) → answer_of w lent ≡ r → left_of w lent ≡ left → Answered lent left w r
a_body w lent r left e f = subst (λ (l : Both). Answered lent l w r) f (subst (Answered lent (left_of w lent) w) e (answer_holds w lent))

pub all_samples : All samples
unfolding samples little array_at units_of before_zero hash_from units_at among known_code width_of sized_at unsized_at table_at values_at single_of gist_at turn_at step_from walk_from walk_of kind_of opening turn ended outcome words_from
all_samples =
    refl and a_body _ _ _ _ refl refl and refl and a_body _ _ _ _ refl refl and refl and refl and refl and (refl, refl) and (refl, refl) and a_body _ _ _ _ refl refl and a_body _ _ _ _ refl refl and a_body _ _ _ _ refl refl and refl and refl and refl and refl and a_body _ _ _ _ refl refl and refl and refl and refl and refl and a_body _ _ _ _ refl refl and refl and refl and refl and refl and refl and refl and a_body _ _ _ _ refl refl and a_body _ _ _ _ refl refl and a_body _ _ _ _ refl refl and a_body _ _ _ _ refl refl and a_body _ _ _ _ refl refl and a_body _ _ _ _ refl refl and a_body _ _ _ _ refl refl and a_body _ _ _ _ refl refl and a_body _ _ _ _ refl refl and a_body _ _ _ _ refl refl and a_body _ _ _ _ refl refl and a_body _ _ _ _ refl refl and a_body _ _ _ _ refl refl and a_body _ _ _ _ refl refl and a_body _ _ _ _ refl refl and tt {0}
