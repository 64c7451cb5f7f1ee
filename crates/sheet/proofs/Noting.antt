-- The tokens that a walk hands on, one after the other, and their words in a buffer. Assumes nothing.
use mathlib.Core.Path.{◌≡◌, refl, sym, ap, subst, ◌∙◌}
use mathlib.Core.List.{List, [], ◌∷◌, ◌++◌}
use Prim.Native.Nat.{ℕ, zero, suc, ◌+◌, ◌-◌, ◌*◌, ◌≤◌, ◌<◌}
use native.Mathlib.Nat.{add-zero, zero-mul, one-mul, mul-one, add-mul}
use native.Mathlib.Omega.{arith}
use native.Mathlib.Decide.{dec_lt}
use borrow.Author.Tests.{le-ltb}
use lib.ListN.{length, set, length-set}
use lib.Seq.{sets, length-sets, set_out}
use Rattle.cursor.specs.Answer.{Answer, given, refused}
use Rattle.tokens.specs.Walk.{Met, handed, header, over, Walked, ok, bad, before, after, turn_at, step_at, walk_from, walk_at}
use Rattle.tokens.specs.declared.Flags.{Flags}
use Rattle.tokens.specs.declared.Token.{Token}
use Rattle.tokens.proofs.Reach.{Grows}
use Rattle.tokens.proofs.Steps.{step_grows, step_is}
use Rattle.sheet.specs.Sheet.{words_of_token, words_per_token, words_of, mark_of, marks_of, handed_on, read_from, read_at}

-- numbers of tokens, one token's after another's, so many for each
pub record Numbers : Type 0 where
  pub each : List Token → List ℕ
  pub one : Token → List ℕ
  pub width : ℕ
  pub none : each [] ≡ []
  pub more : (t : Token) (l : List Token) → each (t ∷ l) ≡ one t ++ each l
  pub wide : (t : Token) → length (one t) ≡ width

-- the sheet's words, and what the grammar reads
abbrev pub words : Numbers
words = record { each = words_of; one = words_of_token; width = words_per_token; none = refl; more = λ t l. refl; wide = λ t. refl }

abbrev pub marks : Numbers
marks = record { each = marks_of; one = λ t. mark_of t ∷ []; width = 1; none = refl; more = λ t l. refl; wide = λ t. refl }

-- one number set, under another name; and at n, which is n times 1
put_one : (left next : List ℕ) (i a b : ℕ) → next ≡ set left i a → a ≡ b → next ≡ sets left i (b ∷ [])
put_one left next i a b h e = h ∙ ap (set left i) e

pub set_one : (left next : List ℕ) (n a b : ℕ) → next ≡ set left n a → a ≡ b → next ≡ sets left (n * 1) (b ∷ [])
set_one left next n a b h e = put_one left next n a b h e ∙ ap (λ (i : ℕ). set left i b) (sym (mul-one n))

-- two numbers set, one behind the other; and the first alone, where there is no room behind it
pub put_two : (left next : List ℕ) (i a b x y : ℕ) → next ≡ set (set left i a) (i + 1) b → a ≡ x → b ≡ y → next ≡ sets left i (x ∷ y ∷ [])
put_two left next i a b x y h e g =
    let m : i + 1 ≡ suc i = omega arith in
    h ∙ ap (λ (k : ℕ). set (set left i a) k b) m ∙ ap (λ (n : ℕ). set (set left i n) (suc i) b) e ∙ ap (set (set left i x) (suc i)) g

pub put_first : (left next : List ℕ) (i a x y : ℕ) → length left ≤ i + 1 → next ≡ set left i a → a ≡ x → next ≡ sets left i (x ∷ y ∷ [])
put_first left next i a x y short h e =
    let k : length (set left i x) ≤ suc i = omega (arith, length-set left i x) in
    h ∙ ap (set left i) e ∙ sym (set_out (set left i x) (suc i) y k)

-- two numbers set, under other names
pub both_as : (left next : List ℕ) (i a b x y : ℕ) → next ≡ sets left i (a ∷ b ∷ []) → a ≡ x → b ≡ y → next ≡ sets left i (x ∷ y ∷ [])
both_as left next i a b x y h e g = h ∙ ap (λ (n : ℕ). sets left i (n ∷ b ∷ [])) e ∙ ap (λ (n : ℕ). sets left i (x ∷ n ∷ [])) g

-- more numbers set behind those that are set
sets_more : (a b l : List ℕ) (i : ℕ) → sets (sets l i a) (i + length a) b ≡ sets l i (a ++ b)
sets_more [] b l i = ap (λ (k : ℕ). sets l k b) (add-zero i)
sets_more (x ∷ a) b l i =
    let e : i + suc (length a) ≡ suc i + length a = omega arith in
    ap (λ (k : ℕ). sets (sets (set l i x) (suc i) a) k b) e ∙ sets_more a b (set l i x) (suc i)

handed_same : (at high : ℕ) (x : Answer Met) (go to : ℕ → List Token) → Grows at high x → ((n : ℕ) → at < n → n ≤ high → go n ≡ to n)
    → handed_on x go ≡ handed_on x to
handed_same at high (given (handed t) n) go to h g = ap (λ (l : List Token). t ∷ l) (g n (omega (arith, h.0, h.1)) h.2)
handed_same at high (given header n) go to h g = refl
handed_same at high (given over n) go to h g = refl
handed_same at high (refused k p) go to h g = refl

handed_short : (at high : ℕ) (x : Answer Met) (go : ℕ → List Token) → Grows at high x → ((n : ℕ) → length (go n) ≤ high - n)
    → length (handed_on x go) ≤ high - at
handed_short at high (given (handed t) n) go h g = omega (arith, h.0, h.1, h.2, g n)
handed_short at high (given header n) go h g = omega arith
handed_short at high (given over n) go h g = omega arith
handed_short at high (refused k p) go h g = omega arith

handed_within : (at high end : ℕ) (x : Answer Met) (go : ℕ → List Token) → at < end → Grows at high x → ((n : ℕ) → length (go n) ≤ end - n)
    → length (handed_on x go) ≤ end - at
handed_within at high end (given (handed t) n) go l h g = omega (arith, h.0, h.1, g n)
handed_within at high end (given header n) go l h g = omega arith
handed_within at high end (given over n) go l h g = omega arith
handed_within at high end (refused k p) go l h g = omega arith

before_ok : (t : Token) (w : Walked) (l : List Token) → before t w ≡ ok l → (r : List Token) × ((l ≡ t ∷ r) × (w ≡ ok r))
before_ok t (ok r) l e = (r, (cc, refl))
before_ok t (bad k p) l e = let z : ◌≡◌ {A = ℕ} 0 1 = cc in absurd (omega arith)

ok_same : (x : Answer Met) (walk : ℕ → Walked) (go : ℕ → List Token) → ((n : ℕ) (l : List Token) → walk n ≡ ok l → go n ≡ l) → (l : List Token)
    → after x walk ≡ ok l → handed_on x go ≡ l
ok_same (given (handed t) n) walk go g l e =
    let y = before_ok t (walk n) l e in
    ap (λ (r : List Token). t ∷ r) (g n y.0 y.1.1) ∙ sym y.1.0
ok_same (given header n) walk go g l e = cc
ok_same (given over n) walk go g l e = cc
ok_same (refused k p) walk go g l e = let z : ◌≡◌ {A = ℕ} 0 1 = cc in absurd (omega arith)

module _ (s : List ℕ) (end : ℕ) (f : Flags) where
  enough : (t u at : ℕ) → 0 < t → 0 < u → length s < at + t → length s < at + u → read_from t s end f at ≡ read_from u s end f at
  unfolding read_from
  enough zero u at a b c d = absurd (omega arith)
  enough (suc t) zero at a b c d = absurd (omega arith)
  enough (suc t) (suc u) at a b c d =
      handed_same at (length s) (step_at s end f at) (read_from t s end f) (read_from u s end f) (step_grows s end f at)
      (λ n l h. enough t u n (omega arith) (omega arith) (omega arith) (omega arith))

  -- what a walk hands on begins with a step's token
  pub read_is : (at : ℕ) (x : Answer Met) → step_at s end f at ≡ x → read_at s end f at ≡ handed_on x (read_from (length s - at) s end f)
  unfolding read_from
  read_is at x e = ap (λ (y : Answer Met). handed_on y (read_from (length s - at) s end f)) e

  pub read_token : (at n : ℕ) (t : Token) → step_at s end f at ≡ given (handed t) n → read_at s end f at ≡ t ∷ read_at s end f n
  read_token at n t e =
      let h = subst (Grows at (length s)) e (step_grows s end f at) in
      read_is at (given (handed t) n) e
      ∙ ap (λ (l : List Token). t ∷ l)
      (enough (length s - at) (suc (length s - n)) n (omega (arith, h.0, h.1, h.2)) (omega arith) (omega (arith, h.0, h.1, h.2)) (omega arith))

  read_ok : (steps at : ℕ) (l : List Token) → walk_from steps s end f at ≡ ok l → read_from steps s end f at ≡ l
  unfolding read_from walk_from
  read_ok zero at l e = cc
  read_ok (suc steps) at l e = ok_same (step_at s end f at) (walk_from steps s end f) (read_from steps s end f) (read_ok steps) l e

  -- a walk that is read hands on its tokens
  pub read_all : (at : ℕ) (l : List Token) → walk_at s end f at ≡ ok l → read_at s end f at ≡ l
  read_all at l e = read_ok (suc (length s - at)) at l e

  -- each token has a byte
  short_from : (steps at : ℕ) → length (read_from steps s end f at) ≤ length s - at
  unfolding read_from
  short_from zero at = omega arith
  short_from (suc steps) at = handed_short at (length s) (step_at s end f at) (read_from steps s end f) (step_grows s end f at) (short_from steps)

  pub read_short : (at : ℕ) → length (read_at s end f at) ≤ length s - at
  read_short at = short_from (suc (length s - at)) at

  -- a token is handed on only from before the end
  turn_over : (at : ℕ) → end ≤ at → turn_at s end f at ≡ given over at
  unfolding turn_at
  turn_over at h = rw (le-ltb at end h)

  step_over : (at : ℕ) → end ≤ at → step_at s end f at ≡ given over at
  step_over at h = step_is s end f at (given over at) (turn_over at h)

  within_from : (steps at : ℕ) → length (read_from steps s end f at) ≤ end - at
  unfolding read_from
  within_from zero at = omega arith
  within_from (suc steps) at =
      elim (dec_lt at end) [
        | yes l ↦ handed_within at (length s) end (step_at s end f at) (read_from steps s end f) l (step_grows s end f at) (within_from steps)
        | no l ↦
            let e : read_from (suc steps) s end f at ≡ [] = ap (λ (y : Answer Met). handed_on y (read_from steps s end f)) (step_over at (omega arith)) in
            omega (arith, ap length e)
      ]

  pub read_within : (at : ℕ) → length (read_at s end f at) ≤ end - at
  read_within at = within_from (suc (length s - at)) at

  -- what a buffer holds when the walk stands at `at` after n tokens
  pub record Noting (g : Numbers) (start at n : ℕ) (lent left : List ℕ) : Type 0 where
    pub same : sets left (n * g.width) (g.each (read_at s end f at)) ≡ sets lent 0 (g.each (read_at s end f start))
    pub kept : length left ≡ length lent

  module _ (g : Numbers) (start : ℕ) where
    pub noting_start : (lent : List ℕ) → Noting g start start 0 lent lent
    noting_start lent = record { same = ap (λ (i : ℕ). sets lent i (g.each (read_at s end f start))) (zero-mul g.width); kept = refl }

    module _ (at n : ℕ) (lent left : List ℕ) (y : Noting g start at n lent left) where
      -- the numbers of the next token are set behind
      pub noting_next : (t : Token) (m : ℕ) → step_at s end f at ≡ given (handed t) m → (next : List ℕ) → next ≡ sets left (n * g.width) (g.one t)
          → Noting g start m (n + 1) lent next
      noting_next t m e next h =
          let rest = g.each (read_at s end f m) in
          let i : (n + 1) * g.width ≡ n * g.width + length (g.one t) =
          add-mul n 1 g.width ∙ ap (λ (k : ℕ). n * g.width + k) (one-mul g.width ∙ sym (g.wide t)) in
          record {
            same =
                ap (λ (x : List ℕ). sets x ((n + 1) * g.width) rest) h
                ∙ ap (λ (k : ℕ). sets (sets left (n * g.width) (g.one t)) k rest) i
                ∙ sets_more (g.one t) rest left (n * g.width)
                ∙ ap (sets left (n * g.width)) (sym (g.more t (read_at s end f m)))
                ∙ ap (λ (l : List Token). sets left (n * g.width) (g.each l)) (sym (read_token at m t e)) ∙ y.same;
            kept = ap length h ∙ length-sets left (n * g.width) (g.one t) ∙ y.kept;
          }

      noting_over : (x : Answer Met) → step_at s end f at ≡ x → handed_on x (read_from (length s - at) s end f) ≡ [] → left ≡ sets lent 0 (g.each (read_at s end f start))
      noting_over x e h =
          ap (sets left (n * g.width)) (sym g.none)
          ∙ ap (λ (l : List Token). sets left (n * g.width) (g.each l)) (sym (read_is at x e ∙ h)) ∙ y.same

      pub noting_last : (m : ℕ) → step_at s end f at ≡ given over m → left ≡ sets lent 0 (g.each (read_at s end f start))
      noting_last m e = noting_over (given over m) e refl

      pub noting_refused : (k p : ℕ) → step_at s end f at ≡ refused k p → left ≡ sets lent 0 (g.each (read_at s end f start))
      noting_refused k p e = noting_over (refused k p) e refl
