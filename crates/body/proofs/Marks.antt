-- The verdict on marks as the reader comes to it. Assumes nothing.
use Rattle.std.specs.Prelude as Std
use Rattle.std.specs.Prelude.{Ok, Err}
use Rattle.body.specs.declared.reader.Misread.{Misread}
use mathlib.Core.Path.{◌≡◌, refl, sym, ap, ◌∙◌}
use mathlib.Core.Bool.{true}
use mathlib.Core.List.{List}
use Prim.Native.Nat.{ℕ, ◌≤◌, ◌<◌}
use borrow.Author.Tests.{le-leb, lt-leb}
use lib.ListN.{length}
use lib.Seq.{sets}
use Rattle.cursor.specs.Answer.{Result, gives, refuses}
use Rattle.cursor.specs.Refusals.{wrong_length}
use Rattle.body.specs.Marks.{count_of, MarksJudged}
use Rattle.body.specs.Reader.{Out, accepted, refused, begin, outcome, words_from, walk, whole_of, verdict_of, verdict_on}
use Rattle.body.specs.Verdict.{deepest}
use Rattle.body.proofs.Agree.{words_length}
use Rattle.body.proofs.Answers.{verdict_right}
use Rattle.body.proofs.Filling.{whole_accepted, whole_refused, whole_table}

pub marks_long : (t lent : List ℕ) → 65536 < length t → MarksJudged t lent lent (refuses wrong_length 0)
marks_long t lent h =
    record { verdict = verdict_on t; judged = verdict_right t; answer = rw (lt-leb (length t) 65536 h); noted = rw (lt-leb (length t) 65536 h) }

module _ (t lent left : List ℕ) (h : length t ≤ 65536) (r : Std.Result ℕ Misread) (e : whole_of r left ≡ walk t begin 0 lent) where
  made : (o : Result ℕ) → o ≡ count_of (verdict_on t) → MarksJudged t lent left o
  made o q =
      record {
        verdict = verdict_on t;
        judged = verdict_right t;
        answer = q ∙ rw (le-leb (length t) 65536 h);
        noted = whole_table t r left lent e ∙ rw (le-leb (length t) 65536 h);
      }

  pub marks_accepted : (j : ℕ) → r ≡ Ok j → MarksJudged t lent left (gives (length t))
  marks_accepted j q =
      let a = whole_accepted t r left lent e j q in
      made (gives (length t))
      (ap gives (sym (words_length true deepest t begin 0 a)) ∙ ap (λ (o : Out). count_of (verdict_of o (words_from true deepest begin 0 t))) (sym a))

  pub marks_refused : (p k : ℕ) → r ≡ Err (record { place = p; number = k }) → MarksJudged t lent left (refuses k p)
  marks_refused p k q =
      let a = whole_refused t r left lent e p k q in
      made (refuses k p) (ap (λ (o : Out). count_of (verdict_of o (words_from true deepest begin 0 t))) (sym a))
