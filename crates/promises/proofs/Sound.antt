-- Well-formed units place by place, joined and cut; a view tells of its own bytes; and sheet, table and refusals do not depend on soundness.
-- Assumes nothing.
use mathlib.Core.Path.{◌≡◌, refl, sym, ap, subst, ◌∙◌}
use mathlib.Core.Bool.{Bool, true, false, not, ◌&&◌, true≢false}
use mathlib.Core.List.{List, [], ◌∷◌, ◌++◌, map}
use Prim.Native.Nat.{ℕ, zero, suc, ◌+◌, ◌*◌, ◌≤◌}
use native.Mathlib.Omega.{arith}
use borrow.Author.Tests.{not-true, le-leb, leb-true}
use lib.Dec.{leb}
use lib.ListN.{length, get_or, take, drop, length-drop}
use lib.Seq.{take-take, length-take-le}
use Rattle.cursor.specs.Answer.{given, refused, ◌then◌, pick, Result, gives, refuses}
use Rattle.cursor.specs.Lent.{laid}
use Rattle.cursor.specs.Reads.{within, bytes_of}
use Rattle.cursor.specs.Refusals.{no_room_number}
use Rattle.cursor.specs.Text.{units_of, before_zero, high_surrogate, low_surrogate, well_formed_after, well_formed, shown_of, view_of, counted_at}
use Rattle.cursor.proofs.Choice.{either}
use Rattle.cursor.proofs.Units.{units_length, units_front, before_length}
use Rattle.name.specs.declared.Soundness.{Soundness}
use Rattle.tokens.specs.Walk.{Walked, ok, bad}
use Rattle.tokens.specs.declared.Token.{Token}
use Rattle.sheet.specs.Sheet.{words_of_token, words_of, marks_of, mark_of, sheet_answer, sheet_words}
use Rattle.body.specs.Verdict.{Verdict, Judged, read, Both, both, both_of, both_answer, both_left}
use Rattle.promises.proofs.Bodies.{on_tokens}
use Rattle.promises.specs.Sound.{Paired, ViewTold, token_as, walk_as, SameSheet}

-- laws of yes and no
both_true : (a b : Bool) → (a && b) ≡ true → (a ≡ true) × (b ≡ true)
both_true true b e = (refl, e)
both_true false b e = (e, absurd (true≢false (sym e)))

and_false : (a : Bool) → (a && false) ≡ false
and_false true = refl
and_false false = refl

-- what may stand behind a high surrogate, or behind none: a low one exactly there
behind : (high low : Bool) → pick high low (not low) ≡ true → low ≡ high
behind true low e = e
behind false low e = not-true low e

behind_too : (high low : Bool) → low ≡ high → pick high low (not low) ≡ true
behind_too true low e = e
behind_too false low e = ap not e

abbrev fits : Bool → ℕ → Bool
fits high u = pick high (low_surrogate u) (not (low_surrogate u))

-- place by place
abbrev Next : List ℕ → Type 0
Next us = (i : ℕ) → low_surrogate (get_or us (suc i) 0) ≡ high_surrogate (get_or us i 0)

one_more : (u : ℕ) (us : List ℕ) → low_surrogate (get_or us 0 0) ≡ high_surrogate u → Next us → Next (u ∷ us)
one_more u us e h zero = e
one_more u us e h (suc i) = h i

after_paired : (high : Bool) (us : List ℕ) → well_formed_after high us ≡ true → (low_surrogate (get_or us 0 0) ≡ high) × Next us
unfolding well_formed_after
after_paired high [] e = (sym (not-true high e), λ i. refl)
after_paired high (u ∷ us) e =
    let p = both_true (fits high u) (well_formed_after (high_surrogate u) us) e in
    let q = after_paired (high_surrogate u) us p.1 in
    (behind high (low_surrogate u) p.0, one_more u us q.0 q.1)

paired_after : (high : Bool) (us : List ℕ) → low_surrogate (get_or us 0 0) ≡ high → Next us → well_formed_after high us ≡ true
unfolding well_formed_after
paired_after high [] e h = ap not (sym e)
paired_after high (u ∷ us) e h =
    ap (λ (x : Bool). x && well_formed_after (high_surrogate u) us) (behind_too high (low_surrogate u) e)
    ∙ paired_after (high_surrogate u) us (h 0) (λ i. h (suc i))

-- well-formed is what the document's sentence says of each place, and nothing else
pub formed_paired : (us : List ℕ) → well_formed us ≡ true → Paired us
formed_paired us e =
    let p = after_paired false us e in
    record { first = p.0; next = p.1 }

pub paired_formed : (us : List ℕ) → Paired us → well_formed us ≡ true
paired_formed us p = paired_after false us p.first p.next

-- sound units followed by sound ones are sound
after_joined : (high : Bool) (a b : List ℕ) → well_formed_after high a ≡ true → well_formed b ≡ true → well_formed_after high (a ++ b) ≡ true
unfolding well_formed_after
after_joined high [] b e f = ap (λ (x : Bool). well_formed_after x b) (not-true high e) ∙ f
after_joined high (u ∷ a) b e f =
    let p = both_true (fits high u) (well_formed_after (high_surrogate u) a) e in
    ap (λ (x : Bool). x && well_formed_after (high_surrogate u) (a ++ b)) p.0 ∙ after_joined (high_surrogate u) a b p.1 f

pub joined_sound : (a b : List ℕ) → well_formed a ≡ true → well_formed b ≡ true → well_formed (a ++ b) ≡ true
joined_sound a b e f = after_joined false a b e f

-- units cut between a high and its low surrogate are not: neither what ends with the high one, nor what begins with the low one
ends_high : (high : Bool) (a : List ℕ) (u : ℕ) → high_surrogate u ≡ true → well_formed_after high (a ++ (u ∷ [])) ≡ false
unfolding well_formed_after
ends_high high [] u e = ap (λ (x : Bool). fits high u && not x) e ∙ and_false (fits high u)
ends_high high (v ∷ a) u e = ap (λ (x : Bool). fits high v && x) (ends_high (high_surrogate v) a u e) ∙ and_false (fits high v)

pub cut_unsound : (a b : List ℕ) (u v : ℕ) → high_surrogate u ≡ true → low_surrogate v ≡ true
    → (well_formed (a ++ (u ∷ [])) ≡ false) × (well_formed (v ∷ b) ≡ false)
unfolding well_formed_after
cut_unsound a b u v e f = (ends_high false a u e, ap (λ (x : Bool). not x && well_formed_after (high_surrogate v) b) f)

-- the units that a view shows are those of its bytes
module _ (s : List ℕ) (at n : ℕ) (h : at + 2 * n ≤ length s) where
  shown_bytes : shown_of (units_of (bytes_of s at (2 * n))) ≡ units_of (bytes_of s at (2 * before_zero (units_of (bytes_of s at (2 * n)))))
  shown_bytes =
      let t = drop at s in
      let us = units_of (take (2 * n) t) in
      let b = before_zero us in
      let e : length (take (2 * n) t) ≡ 2 * n = length-take-le (2 * n) t (omega (arith, length-drop at s)) in
      let k : b ≤ n = omega (arith, before_length us, units_length (take (2 * n) t), e) in
      ap (take b) (units_front t n) ∙ take-take b n (units_of t) k ∙ sym (units_front t b)

  view_told : ViewTold s (given (view_of at (units_of (bytes_of s at (2 * n)))) (at + 2 * n))
  view_told =
      let t = drop at s in
      let us = units_of (take (2 * n) t) in
      let b = before_zero us in
      let e : length (take (2 * n) t) ≡ 2 * n = length-take-le (2 * n) t (omega (arith, length-drop at s)) in
      let k : at + 2 * b ≤ length s = omega (arith, before_length us, units_length (take (2 * n) t), e) in
      ap well_formed shown_bytes
      ∙ ap (λ (x : Bool). well_formed (units_of (pick x (bytes_of s at (2 * b)) []))) (sym (le-leb (at + 2 * b) (length s) k))

pub counted_told : (s : List ℕ) (at n : ℕ) → ViewTold s (counted_at s at n)
counted_told s at n =
    either (λ a. ViewTold s (a then λ _ next. given (view_of at (units_of (bytes_of s at (2 * n)))) next)) (within s at (2 * n)) _ _
    (λ w. view_told s at n (leb-true (at + 2 * n) (length s) w))
    (λ w. tt {0})

-- whatever is said of the soundness of each text and name
module _ (sound : Token → Bool) (soundness : Token → Soundness) where
  abbrev other : Token → Token
  other t = token_as (sound t) (soundness t) t

  words_same : (l : List Token) → words_of (map other l) ≡ words_of l
  words_same [] = refl
  words_same (t ∷ l) = ap (λ (r : List ℕ). words_of_token t ++ r) (words_same l)

  count_same : (l : List Token) → length (map other l) ≡ length l
  count_same [] = refl
  count_same (t ∷ l) = ap suc (count_same l)

  kinds_same : (l : List Token) → marks_of (map other l) ≡ marks_of l
  kinds_same [] = refl
  kinds_same (t ∷ l) = ap (λ (r : List ℕ). mark_of t ∷ r) (kinds_same l)

  answer_same : (w : Walked) (lent : List ℕ) → sheet_answer (walk_as sound soundness w) lent ≡ sheet_answer w lent
  answer_same (ok l) lent =
      let said : List ℕ → ℕ → Result ℕ = λ words n. pick (leb (length words) (length lent)) (gives n) (refuses no_room_number (length words)) in
      ap (λ (words : List ℕ). said words (length (map other l))) (words_same l) ∙ ap (said (words_of l)) (count_same l)
  answer_same (bad k p) lent = refl

  left_same : (w : Walked) (lent : List ℕ) → sheet_words (walk_as sound soundness w) lent ≡ sheet_words w lent
  left_same (ok l) lent =
      ap (λ (words : List ℕ). pick (leb (length words) (length lent)) (laid words lent) lent) (words_same l)
  left_same (bad k p) lent = refl

  judged_as : (w : Walked) (v : Result (List ℕ)) → Judged w v → Judged (walk_as sound soundness w) v
  judged_as (ok l) v j = read (map other l) v (subst (λ (marks : List ℕ). Verdict marks v) (sym (kinds_same l)) (on_tokens l v j))
  judged_as (bad k p) v j = j

  judged_back : (w : Walked) (v : Result (List ℕ)) → Judged (walk_as sound soundness w) v → Judged w v
  judged_back (ok l) v j = read l v (subst (λ (marks : List ℕ). Verdict marks v) (kinds_same l) (on_tokens (map other l) v j))
  judged_back (bad k p) v j = j

  both_same : (w : Walked) (v : Result (List ℕ)) → both_of (walk_as sound soundness w) v ≡ both_of w v
  both_same (ok l) (gives owners) = ap (λ (words : List ℕ). gives (both words owners)) (words_same l)
  both_same (ok l) (refuses k p) = refl
  both_same (bad k p) (gives owners) = refl
  both_same (bad k p) (refuses m q) = refl

  -- a sheet, its refusals with their places, and an owner table do not depend on it
  pub soundness_unseen : (w : Walked) → SameSheet (walk_as sound soundness w) w
  soundness_unseen w =
      record {
        answer = answer_same w;
        words = left_same w;
        body = λ lent left o a.
            let e = both_same w a.verdict in
            record {
              verdict = a.verdict;
              judged = judged_back w a.verdict a.judged;
              answer = a.answer ∙ ap (λ (b : Result Both). both_answer b lent) e;
              buffers = a.buffers ∙ ap (λ (b : Result Both). both_left b lent) e;
            };
        body_too = λ lent left o a.
            let e = sym (both_same w a.verdict) in
            record {
              verdict = a.verdict;
              judged = judged_as w a.verdict a.judged;
              answer = a.answer ∙ ap (λ (b : Result Both). both_answer b lent) e;
              buffers = a.buffers ∙ ap (λ (b : Result Both). both_left b lent) e;
            };
      }
