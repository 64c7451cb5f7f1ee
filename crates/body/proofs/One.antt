-- The contract allows one answer, one sheet and one table. Assumes nothing.
use mathlib.Core.Path.{◌≡◌, refl, sym, ap, subst, ◌∙◌}
use mathlib.Core.List.{List, [], ◌++◌, append-nil, append_assoc}
use Prim.Native.Nat.{ℕ, suc, ◌+◌, ◌-◌, ◌≤◌, ◌<◌}
use native.Mathlib.Omega.{arith}
use native.Mathlib.Decide.{dec_lt}
use lib.ListN.{length, take, drop, take-append-drop}
use lib.Seq.{take-add}
use Rattle.cursor.specs.Answer.{Result, gives, refuses}
use Rattle.tokens.specs.Walk.{Walked, ok, bad}
use Rattle.sheet.specs.Sheet.{marks_of}
use Rattle.body.specs.Grammar.{Rule, wide, narrow, Reading}
use Rattle.body.specs.Verdict.{Begins, NoBody, TooDeep, Disagrees, Unfinished, Refuses, no_body, too_deep, disagreeing, unfinished_body, Verdict, a_body, refused, Judged, unread, read, Both, both_of, both_answer, both_left, Answered}
use Rattle.body.proofs.Rules.{reading_wide}
use Rattle.body.proofs.Agree.{one_table}

module _ (rule : Rule) (l : ℕ) where
  -- what begins a body with more tokens begins one without them
  shorter : (ks more : List ℕ) → Begins rule l (ks ++ more) → Begins rule l ks
  shorter ks more b =
      record { others = more ++ b.others; words = b.words; reading = subst (λ (x : List ℕ). Reading rule l x b.words) (append_assoc ks more b.others) b.reading }

  pub taken : (i j : ℕ) (t : List ℕ) → i ≤ j → Begins rule l (take j t) → Begins rule l (take i t)
  taken i j t h b =
      let e : i + (j - i) ≡ j = omega arith in
      shorter (take i t) (take (j - i) (drop i t)) (subst (Begins rule l) (sym (ap (λ (x : ℕ). take x t) e) ∙ take-add i (j - i) t) b)

  front : (i : ℕ) (t : List ℕ) → Begins rule l t → Begins rule l (take i t)
  front i t b = shorter (take i t) (drop i t) (subst (Begins rule l) (sym (take-append-drop i t)) b)

  -- a body begins with its own tokens
  itself : (t o : List ℕ) → Reading rule l t o → Begins rule l t
  itself t o r = record { others = []; words = o; reading = subst (λ (x : List ℕ). Reading rule l x o) (sym (append-nil t)) r }

  -- what begins a body by a rule begins one by the wide rule
  pub begins_wide : (t : List ℕ) → Begins rule l t → Begins wide l t
  begins_wide t b = record { others = b.others; words = b.words; reading = reading_wide (t ++ b.others) b.words rule l b.reading }

-- 13, 14 and 20 have in common that no body within 64 levels goes through the token, and that one goes up to it
abbrev Stops : List ℕ → ℕ → Type 0
Stops t i = Begins narrow 64 (take i t) × (Begins narrow 64 (take (suc i) t) → ⊥)

one_stop : (t : List ℕ) (i j : ℕ) → Stops t i → Stops t j → i ≡ j
one_stop t i j a b =
    elim (dec_lt i j) [
      | yes h ↦ absurd (a.1 (taken narrow 64 (suc i) j t (omega arith) b.0))
      | no h ↦
          elim (dec_lt j i) [
            | yes g ↦ absurd (b.1 (taken narrow 64 (suc j) i t (omega arith) a.0))
            | no g ↦ omega arith
          ]
    ]

no_body_stops : (t : List ℕ) (i : ℕ) → NoBody t i → Stops t i
no_body_stops t i x = (x.before, λ b. x.none 64 (begins_wide narrow 64 (take (suc i) t) b))

too_deep_stops : (t : List ℕ) (i : ℕ) → TooDeep t i → Stops t i
too_deep_stops t i x = (x.before, x.none)

disagrees_stops : (t : List ℕ) (i : ℕ) → Disagrees t i → Stops t i
disagrees_stops t i x = (x.before, x.none 64)

-- "in that order": no two of 13, 14 and 20 hold of a token
not_deep : (t : List ℕ) (i j : ℕ) → NoBody t i → TooDeep t j → ⊥
not_deep t i j x y =
    let e = one_stop t i j (no_body_stops t i x) (too_deep_stops t j y) in
    x.none 65 (subst (λ (k : ℕ). Begins wide 65 (take (suc k) t)) (sym e) (begins_wide narrow 65 (take (suc j) t) y.deeper))

not_disagreeing : (t : List ℕ) (i j : ℕ) → NoBody t i → Disagrees t j → ⊥
not_disagreeing t i j x y =
    let e = one_stop t i j (no_body_stops t i x) (disagrees_stops t j y) in
    x.none y.levels (subst (λ (k : ℕ). Begins wide y.levels (take (suc k) t)) (sym e) y.goes_on)

deep_agrees : (t : List ℕ) (i j : ℕ) → TooDeep t i → Disagrees t j → ⊥
deep_agrees t i j x y =
    let e = one_stop t i j (too_deep_stops t i x) (disagrees_stops t j y) in
    y.none 65 (subst (λ (k : ℕ). Begins narrow 65 (take (suc k) t)) e x.deeper)

goes_on : (t : List ℕ) (i : ℕ) → Stops t i → Begins narrow 64 t → ⊥
goes_on t i x b = x.1 (front narrow 64 (suc i) t b)

pub one_refusal : (t : List ℕ) {k p m q : ℕ} → Refuses t k p → Refuses t m q → (k ≡ m) × (p ≡ q)
one_refusal t (no_body i x) (no_body j y) = (refl, one_stop t i j (no_body_stops t i x) (no_body_stops t j y))
one_refusal t (no_body i x) (too_deep j y) = absurd (not_deep t i j x y)
one_refusal t (no_body i x) (disagreeing j y) = absurd (not_disagreeing t i j x y)
one_refusal t (no_body i x) (unfinished_body y) = absurd (goes_on t i (no_body_stops t i x) y.more)
one_refusal t (too_deep i x) (no_body j y) = absurd (not_deep t j i y x)
one_refusal t (too_deep i x) (too_deep j y) = (refl, one_stop t i j (too_deep_stops t i x) (too_deep_stops t j y))
one_refusal t (too_deep i x) (disagreeing j y) = absurd (deep_agrees t i j x y)
one_refusal t (too_deep i x) (unfinished_body y) = absurd (goes_on t i (too_deep_stops t i x) y.more)
one_refusal t (disagreeing i x) (no_body j y) = absurd (not_disagreeing t j i y x)
one_refusal t (disagreeing i x) (too_deep j y) = absurd (deep_agrees t j i y x)
one_refusal t (disagreeing i x) (disagreeing j y) = (refl, one_stop t i j (disagrees_stops t i x) (disagrees_stops t j y))
one_refusal t (disagreeing i x) (unfinished_body y) = absurd (goes_on t i (disagrees_stops t i x) y.more)
one_refusal t (unfinished_body x) (no_body j y) = absurd (goes_on t j (no_body_stops t j y) x.more)
one_refusal t (unfinished_body x) (too_deep j y) = absurd (goes_on t j (too_deep_stops t j y) x.more)
one_refusal t (unfinished_body x) (disagreeing j y) = absurd (goes_on t j (disagrees_stops t j y) x.more)
one_refusal t (unfinished_body x) (unfinished_body y) = (refl, refl)

-- a body within 64 levels is not refused
pub not_both : (t o : List ℕ) {k p : ℕ} → Reading narrow 64 t o → Refuses t k p → ⊥
not_both t o r (no_body i x) = goes_on t i (no_body_stops t i x) (itself narrow 64 t o r)
not_both t o r (too_deep i x) = goes_on t i (too_deep_stops t i x) (itself narrow 64 t o r)
not_both t o r (disagreeing i x) = goes_on t i (disagrees_stops t i x) (itself narrow 64 t o r)
not_both t o r (unfinished_body x) = x.none 64 o r

-- the grammar has one verdict on tokens, and a walk has one
pub one_verdict : (t : List ℕ) {u v : Result (List ℕ)} → Verdict t u → Verdict t v → u ≡ v
one_verdict t (a_body o x) (a_body p y) = ap gives (one_table narrow narrow 64 64 t o p x y)
one_verdict t (a_body o x) (refused k p y) = absurd (not_both t o x y)
one_verdict t (refused k p x) (a_body o y) = absurd (not_both t o y x)
one_verdict t (refused k p x) (refused m q y) =
    let z = one_refusal t x y in
    λ i. refuses (z.0 i) (z.1 i)

pub one_judgement : {w : Walked} {u v : Result (List ℕ)} → Judged w u → Judged w v → u ≡ v
one_judgement (unread k p) (unread m q) = refl
one_judgement (read l u x) (read n v y) = one_verdict (marks_of l) x y

module _ (lent left left' : Both) where
  pub one_answer : {w : Walked} {o p : Result ℕ} → Answered lent left w o → Answered lent left' w p → (o ≡ p) × (left ≡ left')
  one_answer {w = w} x y =
      let e = one_judgement x.judged y.judged in (
        x.answer ∙ ap (λ (v : Result (List ℕ)). both_answer (both_of w v) lent) e ∙ sym y.answer,
        x.buffers ∙ ap (λ (v : Result (List ℕ)). both_left (both_of w v) lent) e ∙ sym y.buffers,
      )
