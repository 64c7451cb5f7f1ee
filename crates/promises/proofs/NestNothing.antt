-- Where no instance has a value of type 21, sheet and table are those of the walk's tokens. Assumes nothing.
use mathlib.Core.Path.{◌≡◌, refl, sym, ap, ◌∙◌}
use mathlib.Core.Bool.{false}
use mathlib.Core.List.{List, [], ◌∷◌, ◌++◌, map}
use Prim.Native.Nat.{ℕ, zero, suc, ◌+◌, ◌*◌, ◌^◌, ◌≤◌, ◌<◌}
use native.Mathlib.Omega.{arith}
use lib.Dec.{leb}
use lib.ListN.{length, get_or, length-map}
use Rattle.cursor.specs.Answer.{Answer, given, refused, Result, gives, refuses}
use Rattle.cursor.proofs.Choice.{either}
use Rattle.tokens.specs.Walk.{Walked, ok, bad, walk_at, window_of, walk_in, walk_of}
use Rattle.tokens.specs.declared.Flags.{Flags}
use Rattle.tokens.proofs.Steps.{walk_window}
use Rattle.sheet.specs.Sheet.{first_word_of, second_word_of, words_of, mark_of, marks_of}
use Rattle.body.specs.Grammar.{narrow}
use Rattle.body.specs.Verdict.{deepest, Refuses, no_body, too_deep, disagreeing, unfinished_body, Verdict, a_body, Judged, unread, read, Both, both, both_of, both_answer, both_left}
use Rattle.body.specs.Verdict as verdict
use Rattle.body.specs.Reader.{verdict_on}
use Rattle.body.proofs.Answers.{verdict_right}
use Rattle.body.proofs.One.{one_judgement}
use Rattle.nest.specs.Nested.{deepest_body, Entry, Own, tokens_of, numbers_from, renumbered, entries_of, by_numbers, closed_at, nest_at, body_at, in_window, nested_of, sheet_of, owners_of, both_words}
use Rattle.nest.proofs.Numbers.{same_words}
use Rattle.nest.proofs.Owners.{owner_before}
use Rattle.promises.specs.Nests.{Says, NoBodies, NothingNew}
use Rattle.promises.proofs.NestPlain.{Bare, Plain, nest_plain}
use Rattle.promises.proofs.NestWalk.{Walks, nest_walks}

-- each token's number is its place among the walk's
numbers_bare : (l : List Own) (n i : ℕ) → Bare l → i ≤ length l → get_or (numbers_from n l) i 0 ≡ n + i
numbers_bare [] n zero b h = omega arith
numbers_bare [] n (suc i) b h = absurd (omega arith)
numbers_bare (o ∷ l) n zero b h = omega arith
numbers_bare (o ∷ l) n (suc i) b h =
    let e : length o.within ≡ 0 = ap length b.0 in
    let q = numbers_bare l (suc n + length o.within) i b.1 (omega arith) in
    q ∙ omega (arith, e)

sheet_bare : (words : List ℕ) (l : List Own) → Bare l → length words ≡ length l → sheet_of (entries_of 0 words l) ≡ words_of (tokens_of l)
sheet_bare words [] b e = refl
sheet_bare [] (o ∷ l) b e = absurd (omega (arith, e))
sheet_bare (w ∷ words) (o ∷ l) b e =
    let z : first_word_of o.token + 0 * 2 ^ 4 ≡ first_word_of o.token = omega arith in
    let q = sheet_bare words l b.1 (omega (arith, e)) in
    ap
    (λ (x : List Entry). (first_word_of o.token + 0 * 2 ^ 4) ∷ second_word_of o.token ∷ sheet_of (x ++ entries_of 0 words l))
    b.0
    ∙ (λ i. z i ∷ second_word_of o.token ∷ q i)

owners_bare : (words : List ℕ) (l : List Own) → Bare l → length words ≡ length l → owners_of (entries_of 0 words l) ≡ words
owners_bare [] [] b e = refl
owners_bare (w ∷ words) [] b e = absurd (omega (arith, e))
owners_bare [] (o ∷ l) b e = absurd (omega (arith, e))
owners_bare (w ∷ words) (o ∷ l) b e =
    ap (λ (x : List Entry). w ∷ owners_of (x ++ entries_of 0 words l)) b.0 ∙ ap (λ (x : List ℕ). w ∷ x) (owners_bare words l b.1 (omega (arith, e)))

-- a refusal's place is a token's number, or how many there are
refused_at : (t : List ℕ) {k p : ℕ} → Refuses t k p → p ≤ length t
refused_at t (no_body i x) = omega (arith, x.there)
refused_at t (too_deep i x) = omega (arith, x.there)
refused_at t (disagreeing i x) = omega (arith, x.there)
refused_at t (unfinished_body x) = omega arith

length_marks : (l : List Own) → length (marks_of (tokens_of l)) ≡ length l
length_marks l = length-map (tokens_of l) mark_of ∙ length-map l (λ o. o.token)

module _ (l : List Own) (b : Bare l) where
  numbers_are : (i : ℕ) → i ≤ length l → get_or (numbers_from 0 l) i 0 ≡ i
  numbers_are i h = numbers_bare l 0 i b h ∙ omega arith

  pub judged_plain : {v : Result (List ℕ)} → Verdict (marks_of (tokens_of l)) v → both_words (by_numbers 0 (numbers_from 0 l) l v) ≡ both_of (ok (tokens_of l)) v
  judged_plain (a_body words r) =
      let n : length words ≡ length l = r.each ∙ length_marks l in
      let e =
      same_words (numbers_from 0 l) (length l) words numbers_are
      (λ i h. omega (arith, owner_before (marks_of (tokens_of l)) words narrow deepest r i (omega (arith, h, n, length_marks l)), h, n))
      in
      ap (λ (x : List ℕ). gives (both (sheet_of (entries_of 0 x l)) (owners_of (entries_of 0 x l)))) e
      ∙ (λ i. gives (both (sheet_bare words l b n i) (owners_bare words l b n i)))
  judged_plain (verdict.refused k p r) = ap (refuses k) (numbers_are p (omega (arith, refused_at (marks_of (tokens_of l)) r, length_marks l)))

-- the verdict on a walk by a judge, and P8's words by it
abbrev verdict_by : (List ℕ → Result (List ℕ)) → Walked → Result (List ℕ)
verdict_by judge (ok l) = judge (marks_of l)
verdict_by judge (bad k p) = refuses k p

abbrev in_one_call : (List ℕ → Result (List ℕ)) → Walked → Result Both
in_one_call judge w = both_of w (verdict_by judge w)

judged_by : (judge : List ℕ → Result (List ℕ)) → Says judge → (w : Walked) → Judged w (verdict_by judge w)
judged_by judge says (ok l) = read l (judge (marks_of l)) (says (marks_of l))
judged_by judge says (bad k p) = unread k p

module _ (judge : List ℕ → Result (List ℕ)) (says : Says judge) where
  closed_plain : (start end : ℕ) (w : Walked) (x : Answer (List Own)) → Walks w x → Plain w x → both_words (closed_at judge 0 false 0 start end x) ≡ in_one_call judge w
  closed_plain start end w (given l last) e b = judged_plain l b (says (marks_of (tokens_of l))) ∙ ap (in_one_call judge) (sym e)
  closed_plain start end w (refused k p) e b = ap (in_one_call judge) (sym b)

  module _ (s : List ℕ) (start len : ℕ) (f : Flags) (none : NoBodies s (start + len) f start) where
    in_window_lem : both_words (in_window judge s f (gives (start, start + len))) ≡ in_one_call judge (walk_in s f (gives (start, start + len)))
    in_window_lem =
        let inner = body_at judge s f.inline deepest_body in
        closed_plain start (start + len) (walk_at s (start + len) f start) (nest_at s inner (start + len) f 0 start)
        (nest_walks s inner (start + len) f 0 start) (nest_plain s inner (start + len) f start none 0)

    abbrev Same : Result (ℕ × ℕ) → Type 0
    Same x = both_words (in_window judge s f x) ≡ in_one_call judge (walk_in s f x)

    pub plain_words : both_words (nested_of judge s start len f) ≡ in_one_call judge (walk_of s start len f)
    plain_words =
        either Same (leb (length s) 65536) _ _ (λ h. either Same (leb start (length s)) _ _ (λ k. in_window_lem) (λ k. refl)) (λ h. refl)
        ∙ ap (in_one_call judge) (walk_window s start len f (window_of s start len) refl)

-- "Where no instance has a value of type 21, answer, sheet and table are P8's."
pub nothing_new : NothingNew
nothing_new s start len f lent left o none =
    let w = walk_of s start len f in (
      λ x.
          let a = x verdict_on verdict_right in
          let e = plain_words verdict_on verdict_right s start len f none in
          record {
            verdict = verdict_by verdict_on w;
            judged = judged_by verdict_on verdict_right w;
            answer = a.0 ∙ ap (λ (b : Result Both). both_answer b lent) e;
            buffers = a.1 ∙ ap (λ (b : Result Both). both_left b lent) e;
          },
      λ y judge says.
          let v = ap (both_of w) (one_judgement y.judged (judged_by judge says w)) ∙ sym (plain_words judge says s start len f none) in (
            y.answer ∙ ap (λ (b : Result Both). both_answer b lent) v,
            y.buffers ∙ ap (λ (b : Result Both). both_left b lent) v,
          ),
    )
