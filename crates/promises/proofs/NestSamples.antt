-- The samples of bodies inside values hold: computed on the definitions that the contract cites. Assumes nothing.
use mathlib.Core.Path.{◌≡◌, refl, sym, ap, ◌∙◌}
use mathlib.Core.List.{List, [], ◌∷◌}
use Prim.Native.Nat.{ℕ}
use lib.ListN.{length}
use Rattle.cursor.specs.Answer.{Result}
use Rattle.cursor.specs.Reads.{little, array_at}
use Rattle.cursor.specs.Text.{units_of, before_zero}
use Rattle.value.specs.Kinds.{among, known_code, width_of}
use Rattle.value.specs.Value.{sized_at, unsized_at}
use Rattle.tokens.specs.Instance.{table_at}
use Rattle.tokens.specs.Table.{gist_at}
use Rattle.tokens.specs.Walk.{turn_at}
use Rattle.tokens.specs.declared.Flags.{Flags}
use Rattle.body.specs.Grammar.{kind_of}
use Rattle.body.specs.Reader.{opening, turn, ended, outcome, words_from, verdict_on}
use Rattle.body.specs.Verdict.{Both, both_answer, both_left}
use Rattle.body.proofs.Answers.{verdict_right}
use Rattle.nest.specs.Nested.{Entry, values_from, nest_from, body_at, nested_of, both_words, Nested}
use Rattle.promises.specs.NestSamples.{offset_names, Sample, All, samples}
use Rattle.promises.proofs.NestOne.{one_judge}

-- what is computed by the reader's verdict is the answer by every judge
by_reader : (s : List ℕ) (start len : ℕ) (f : Flags) (lent left : Both) (o : Result ℕ) → both_answer (both_words (nested_of verdict_on s start len f)) lent ≡ o
    → both_left (both_words (nested_of verdict_on s start len f)) lent ≡ left → Nested s start len f lent left o
by_reader s start len f lent left o e q judge says =
    let j = one_judge.1 verdict_on judge verdict_right says s start len f in (
      sym e ∙ ap (λ (x : Result (List Entry)). both_answer (both_words x) lent) j,
      sym q ∙ ap (λ (x : Result (List Entry)). both_left (both_words x) lent) j,
    )

-- what the reader's verdict computes for each
abbrev Computed : List Sample → Type 0
Computed [] = Unit {0}
Computed (x ∷ l) =
    (both_answer (both_words (nested_of verdict_on x.stream 0 (length x.stream) offset_names)) x.lent ≡ x.answer)
    × (both_left (both_words (nested_of verdict_on x.stream 0 (length x.stream) offset_names)) x.lent ≡ x.left) × Computed l

each_holds : (l : List Sample) → Computed l → All l
each_holds [] c = tt {0}
each_holds (x ∷ l) c = (by_reader x.stream 0 (length x.stream) offset_names x.lent x.left x.answer c.0 c.1, each_holds l c.2)

computed : Computed samples
unfolding samples little array_at units_of before_zero among known_code width_of sized_at unsized_at table_at gist_at turn_at kind_of opening turn ended outcome words_from values_from nest_from body_at
computed = (refl, refl, (refl, refl, (refl, refl, (refl, refl, (refl, refl, (refl, refl, (refl, refl, (refl, refl, (refl, refl, (refl, refl, (refl, refl, tt {0})))))))))))

pub nest_samples : All samples
nest_samples = each_holds samples computed
