-- The verdict on a body's own marks, as its call says it. Assumes nothing.
use mathlib.Core.Path.{◌≡◌, refl, sym, ap, subst, ◌∙◌}
use mathlib.Core.Bool.{Bool, true}
use mathlib.Core.List.{List, map}
use Prim.Native.Nat.{ℕ, ◌≤◌, ◌<◌}
use native.Mathlib.Omega.{arith}
use borrow.Author.Tests.{le-leb}
use lib.ListN.{length, get_or, take}
use lib.Seq.{sets, get_or-take, length-take-le}
use Rattle.cursor.specs.Answer.{Result, gives, refuses, pick}
use Rattle.cursor.specs.Refusals.{wrong_length}
use Rattle.sheet.proofs.Laying.{front}
use Rattle.body.specs.Grammar.{narrow}
use Rattle.body.specs.Marks.{count_of, unless_long, MarksJudged}
use Rattle.body.specs.Reader.{Out, accepted, refused, begin, words_from, outcome, verdict_of, verdict_on}
use Rattle.body.specs.Verdict.{Verdict, a_body, deepest}
use Rattle.body.specs.Verdict as verdicts
use Rattle.body.proofs.Answers.{verdict_right}
use Rattle.body.proofs.One.{one_verdict}
use Rattle.nest.specs.Nested.{renumbered}
use Rattle.nest.specs.Pieces.{set_at, numbers_to, verdict_answer, VerdictLaid}
use Rattle.nest.proofs.Numbers.{number_alone, same_words, set_run}
use Rattle.nest.proofs.Owners.{owner_before}

-- a body has a word for each token
pub each_word : (t : List ℕ) {v : Result (List ℕ)} → Verdict t v → (words : List ℕ) → v ≡ gives words → length words ≡ length t
each_word t (a_body o r) words e =
    let q : o ≡ words = cc in
    ap length (sym q) ∙ r.each
each_word t (verdicts.refused k p r) words e = let z : ◌≡◌ {A = ℕ} 0 1 = cc in absurd (omega arith)

-- and none is owned by a later one
owned_before : (t : List ℕ) {v : Result (List ℕ)} → Verdict t v → (words : List ℕ) → v ≡ gives words → (i : ℕ) → i < length t → get_or words i 0 ≤ i
owned_before t (a_body o r) words e i h =
    let q : o ≡ words = cc in
    subst (λ (x : List ℕ). get_or x i 0 ≤ i) q (owner_before t o narrow deepest r i h)
owned_before t (verdicts.refused k p r) words e i h = let z : ◌≡◌ {A = ℕ} 0 1 = cc in absurd (omega arith)

its_words : (x : Out) (words given : List ℕ) → verdict_of x words ≡ gives given → words ≡ given
its_words accepted words given e = cc
its_words (refused k p) words given e = let z : ◌≡◌ {A = ℕ} 0 1 = cc in absurd (omega arith)

module _ (t lent left : List ℕ) (o : Result ℕ) (h : length t ≤ 65536) (j : MarksJudged t lent left o) where
  same : verdict_on t ≡ j.verdict
  same = one_verdict t (verdict_right t) j.judged

  answered : o ≡ count_of (verdict_on t)
  answered = j.answer ∙ ap (λ (b : Bool). pick b (count_of j.verdict) (refuses wrong_length 0)) (le-leb (length t) 65536 h) ∙ ap count_of (sym same)

  noted : left ≡ sets lent 0 (words_from true deepest begin 0 t)
  noted = j.noted ∙ ap (λ (b : Bool). pick b (sets lent 0 (words_from true deepest begin 0 t)) lent) (le-leb (length t) 65536 h)

  by_verdict : (v : Result (List ℕ)) → verdict_on t ≡ v → (m : ℕ) → count_of v ≡ gives m → (words : List ℕ) × (verdict_on t ≡ gives words)
  by_verdict (gives words) e m q = (words, e)
  by_verdict (refuses k p) e m q = let z : ◌≡◌ {A = ℕ} 0 1 = cc in absurd (omega arith)

  -- a body: its words stand at the front of the working words
  pub judged_body : (m : ℕ) → o ≡ gives m
      → (words : List ℕ) × ((verdict_on t ≡ gives words) × (length words ≡ length t) × (length t ≤ length lent → take (length t) left ≡ words))
  judged_body m e =
      let y = by_verdict (verdict_on t) refl m (sym answered ∙ e) in
      let n = each_word t (verdict_right t) y.0 y.1 in
      let w = its_words (outcome true deepest begin 0 t) (words_from true deepest begin 0 t) y.0 y.1 in
      let k : length (words_from true deepest begin 0 t) ≡ length t = ap length w ∙ n in (
        y.0,
        (
          y.1,
          n,
          λ room.
              ap (take (length t)) noted ∙ ap (λ (i : ℕ). take i (sets lent 0 (words_from true deepest begin 0 t))) (sym k)
              ∙ front lent (words_from true deepest begin 0 t) (omega (arith, k)) ∙ w,
        ),
      )

  by_refusal : (v : Result (List ℕ)) → verdict_on t ≡ v → (k p : ℕ) → count_of v ≡ refuses k p → verdict_on t ≡ refuses k p
  by_refusal (gives words) e k p q = let z : ◌≡◌ {A = ℕ} 0 1 = cc in absurd (omega arith)
  by_refusal (refuses m i) e k p q = e ∙ q' m i k p q
    where
      q' : (m i k p : ℕ) → count_of (refuses m i) ≡ refuses k p → ◌≡◌ {A = Result (List ℕ)} (refuses m i) (refuses k p)
      q' m i k p q =
          let a : m ≡ k = cc in
          let b : i ≡ p = cc in
          λ z. refuses (a z) (b z)

  pub judged_refused : (k p : ℕ) → o ≡ refuses k p → verdict_on t ≡ refuses k p
  judged_refused k p e = by_refusal (verdict_on t) refl k p (sym answered ∙ e)

  -- what is answered of a body, and the table then
  pub laid_body : (k n : ℕ) (own numbers table₀ table : List ℕ) → length t ≡ k → k ≤ length lent → (m : ℕ) → o ≡ gives m
      → table ≡ set_at own (map (renumbered numbers) (take k left)) table₀
      → (gives n ≡ verdict_answer n numbers (verdict_on t)) × VerdictLaid own numbers (verdict_on t) table₀ table
  laid_body k n own numbers table₀ table c room m e q =
      let y = judged_body m e in
      let w : take k left ≡ y.0 = ap (λ (i : ℕ). take i left) (sym c) ∙ y.1.2 (omega (arith, c, room)) in (
        ap (verdict_answer n numbers) (sym y.1.0),
        subst (λ (v : Result (List ℕ)). VerdictLaid own numbers v table₀ table) (sym y.1.0)
            (q ∙ ap (λ (x : List ℕ). set_at own (map (renumbered numbers) x) table₀) w),
      )

  -- where each number is its place, the working words are the table
  pub laid_alone : (k n : ℕ) (numbers : List ℕ) → length t ≡ k → n ≡ k → k ≤ length numbers → ((i : ℕ) → i < k → get_or numbers i 0 ≡ i) → (m : ℕ) → o ≡ gives m
      → (gives n ≡ verdict_answer n (numbers_to k n numbers) (verdict_on t)) × VerdictLaid (take k numbers) (numbers_to k n numbers) (verdict_on t) lent left
  laid_alone k n numbers c a room f m e =
      let y = judged_body m e in
      let w = its_words (outcome true deepest begin 0 t) (words_from true deepest begin 0 t) y.0 y.1.0 in
      let N = numbers_to k n numbers in
      let l = length-take-le k numbers room in
      let stay = same_words N k y.0 (number_alone numbers k n room a f)
      (λ i h. omega (arith, c, h, y.1.1, owned_before t (verdict_right t) y.0 y.1.0 i (omega (arith, h, y.1.1)))) in
      let run = set_run (take k numbers) y.0 lent 0 (omega (arith, l, c, y.1.1)) (λ i h. get_or-take k numbers i 0 (omega (arith, h, l)) ∙ f i (omega (arith, h, l)) ∙ omega arith) in (
        ap (verdict_answer n N) (sym y.1.0),
        subst (λ (v : Result (List ℕ)). VerdictLaid (take k numbers) N v lent left) (sym y.1.0)
            (noted ∙ ap (sets lent 0) w ∙ sym run ∙ ap (λ (x : List ℕ). set_at (take k numbers) x lent) (sym stay)),
      )

  -- and of what is refused
  pub laid_refused : (n : ℕ) (own numbers table₀ table : List ℕ) (k p q : ℕ) → o ≡ refuses k p → q ≡ get_or numbers p 0
      → (refuses k q ≡ verdict_answer n numbers (verdict_on t)) × VerdictLaid own numbers (verdict_on t) table₀ table
  laid_refused n own numbers table₀ table k p q e g =
      let y = judged_refused k p e in
      (ap (refuses k) g ∙ ap (verdict_answer n numbers) (sym y), subst (λ (v : Result (List ℕ)). VerdictLaid own numbers v table₀ table) (sym y) (tt {0}))
