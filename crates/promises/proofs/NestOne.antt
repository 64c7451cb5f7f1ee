-- The contract of bodies inside values allows one answer with both buffers. Assumes nothing.
use mathlib.Core.Path.{◌≡◌, sym, ap, ◌∙◌}
use mathlib.Core.List.{List}
use Prim.Native.Nat.{ℕ}
use Rattle.cursor.specs.Answer.{Result}
use Rattle.body.specs.Reader.{verdict_on}
use Rattle.body.proofs.Answers.{verdict_right}
use Rattle.body.proofs.One.{one_verdict}
use Rattle.body.specs.Verdict.{both_answer, both_left}
use Rattle.nest.specs.Nested.{Entry, nested_of, both_words}
use Rattle.promises.specs.Nests.{Says, OneNested, SomeNested, OneJudge}

-- the grammar has one verdict on tokens, so two judges are the same function
pub judges_same : (judge other : List ℕ → Result (List ℕ)) → Says judge → Says other → judge ≡ other
judges_same judge other x y = λ i. λ marks. one_verdict marks (x marks) (y marks) i

pub one_judge : OneJudge
one_judge = (
  (verdict_on, verdict_right),
  λ judge other x y s start len f.
      ap (λ (j : List ℕ → Result (List ℕ)). nested_of j s start len f) (judges_same judge other x y),
)

-- "Any two answers with both buffers are equal."
pub one_nested : OneNested
one_nested s start len f lent left left' o o' x y =
    let a = x verdict_on verdict_right in
    let b = y verdict_on verdict_right in
    (a.0 ∙ sym b.0, a.1 ∙ sym b.1)

pub some_nested : SomeNested
some_nested s start len f lent = (
  both_answer (both_words (nested_of verdict_on s start len f)) lent,
  (
    both_left (both_words (nested_of verdict_on s start len f)) lent,
    λ judge says.
        let e = one_judge.1 verdict_on judge verdict_right says s start len f in (
          ap (λ (x : Result (List Entry)). both_answer (both_words x) lent) e,
          ap (λ (x : Result (List Entry)). both_left (both_words x) lent) e,
        ),
  ),
)
