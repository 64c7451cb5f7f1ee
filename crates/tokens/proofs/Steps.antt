-- Steps and the walk: as many turns as there are bytes are enough. Assumes nothing.
use mathlib.Core.Path.{◌≡◌, refl, sym, ap, subst, ◌∙◌}
use mathlib.Core.List.{List, [], ◌∷◌}
use Prim.Native.Nat.{ℕ, zero, suc, ◌+◌, ◌-◌, ◌≤◌, ◌<◌}
use native.Mathlib.Omega.{arith}
use borrow.Author.Tests.{leb-true}
use lib.Dec.{leb}
use lib.ListN.{length}
use Rattle.cursor.specs.Answer.{Answer, given, refused, Result, gives, refuses}
use Rattle.cursor.proofs.Choice.{either}
use Rattle.tokens.specs.Walk.{Met, handed, header, over, turn_at, onward, step_from, step_at, Walked, ok, bad, before, after, walk_from, walk_at, window_of, walk_in, walk_of, counted_of}
use Rattle.tokens.specs.declared.Flags.{Flags}
use Rattle.tokens.specs.declared.Token.{Token}
use Rattle.tokens.proofs.Reach.{Grows, turn_grows}

grows_lower : (low n high : ℕ) (a : Answer Met) → low < n → Grows n high a → Grows low high a
grows_lower low n high (given (handed t) m) l h = (omega (arith, h.0), h.1, h.2, h.3, h.4, h.5)
grows_lower low n high (given header m) l h = (omega (arith, h.0), h.1)
grows_lower low n high (given over m) l h = tt {0}
grows_lower low n high (refused k p) l h = tt {0}

onward_grows : (at high : ℕ) (x : Answer Met) (go : ℕ → Answer Met) → Grows at high x → ((n : ℕ) → Grows n high (go n)) → Grows at high (onward x go)
onward_grows at high (given (handed t) n) go h g = h
onward_grows at high (given header n) go h g = grows_lower at n high (go n) h.0 (g n)
onward_grows at high (given over n) go h g = tt {0}
onward_grows at high (refused k p) go h g = tt {0}

onward_same : (at high : ℕ) (x : Answer Met) (go to : ℕ → Answer Met) → Grows at high x → ((n : ℕ) → at < n → n ≤ high → go n ≡ to n)
    → onward x go ≡ onward x to
onward_same at high (given (handed t) n) go to h g = refl
onward_same at high (given header n) go to h g = g n h.0 h.1
onward_same at high (given over n) go to h g = refl
onward_same at high (refused k p) go to h g = refl

after_same : (at high : ℕ) (x : Answer Met) (go to : ℕ → Walked) → Grows at high x → ((n : ℕ) → at < n → n ≤ high → go n ≡ to n)
    → after x go ≡ after x to
after_same at high (given (handed t) n) go to h g = ap (before t) (g n (omega (arith, h.0, h.1)) h.2)
after_same at high (given header n) go to h g = refl
after_same at high (given over n) go to h g = refl
after_same at high (refused k p) go to h g = refl

module _ (s : List ℕ) (end : ℕ) (f : Flags) where
  from_grows : (turns at : ℕ) → Grows at (length s) (step_from turns s end f at)
  unfolding step_from
  from_grows zero at = tt {0}
  from_grows (suc turns) at = onward_grows at (length s) (turn_at s end f at) (step_from turns s end f) (turn_grows s end f at) (from_grows turns)

  -- a token of a step stands within the stream, and the next position is after it
  pub step_grows : (at : ℕ) → Grows at (length s) (step_at s end f at)
  step_grows at = from_grows (suc (length s - at)) at

  enough_turns : (t u at : ℕ) → 0 < t → 0 < u → length s < at + t → length s < at + u → step_from t s end f at ≡ step_from u s end f at
  unfolding step_from
  enough_turns zero u at a b c d = absurd (omega arith)
  enough_turns (suc t) zero at a b c d = absurd (omega arith)
  enough_turns (suc t) (suc u) at a b c d =
      onward_same at (length s) (turn_at s end f at) (step_from t s end f) (step_from u s end f) (turn_grows s end f at)
      (λ n l h. enough_turns t u n (omega arith) (omega arith) (omega arith) (omega arith))

  -- a step begins with a turn
  pub step_is : (at : ℕ) (x : Answer Met) → turn_at s end f at ≡ x → step_at s end f at ≡ onward x (step_from (length s - at) s end f)
  unfolding step_from
  step_is at x e = ap (λ (y : Answer Met). onward y (step_from (length s - at) s end f)) e

  -- after a header the step goes on
  pub step_header : (at n : ℕ) → turn_at s end f at ≡ given header n → step_at s end f at ≡ step_at s end f n
  step_header at n e =
      let h = subst (Grows at (length s)) e (turn_grows s end f at) in
      step_is at (given header n) e ∙ enough_turns (length s - at) (suc (length s - n)) n (omega (arith, h.0, h.1)) (omega arith) (omega (arith, h.0, h.1)) (omega arith)

  enough_steps : (t u at : ℕ) → 0 < t → 0 < u → length s < at + t → length s < at + u → walk_from t s end f at ≡ walk_from u s end f at
  unfolding walk_from
  enough_steps zero u at a b c d = absurd (omega arith)
  enough_steps (suc t) zero at a b c d = absurd (omega arith)
  enough_steps (suc t) (suc u) at a b c d =
      after_same at (length s) (step_at s end f at) (walk_from t s end f) (walk_from u s end f) (step_grows at)
      (λ n l h. enough_steps t u n (omega arith) (omega arith) (omega arith) (omega arith))

  -- a walk begins with a step
  pub walk_is : (at : ℕ) (x : Answer Met) → step_at s end f at ≡ x → walk_at s end f at ≡ after x (walk_from (length s - at) s end f)
  unfolding walk_from
  walk_is at x e = ap (λ (y : Answer Met). after y (walk_from (length s - at) s end f)) e

  -- a step's token is the walk's first, and the walk goes on after it
  pub walk_token : (at n : ℕ) (t : Token) → step_at s end f at ≡ given (handed t) n → walk_at s end f at ≡ before t (walk_at s end f n)
  walk_token at n t e =
      let h = subst (Grows at (length s)) e (step_grows at) in
      walk_is at (given (handed t) n) e
      ∙ ap (before t) (enough_steps (length s - at) (suc (length s - n)) n (omega (arith, h.0, h.1, h.2)) (omega arith) (omega (arith, h.0, h.1, h.2)) (omega arith))

-- a token lies within the stream, and its kind is from 1 to 13: in a stream of at most 65,536 bytes place and length fit 17 bits
abbrev pub Inside : ℕ → Token → Type 0
Inside high t = (t.place < t.place + t.len) × (t.place + t.len ≤ high) × (1 ≤ t.kind) × (t.kind ≤ 13)

abbrev pub All : (Token → Type 0) → List Token → Type 0
All P [] = Unit {0}
All P (t ∷ l) = P t × All P l

abbrev pub AllInside : ℕ → Walked → Type 0
AllInside high (ok l) = All (Inside high) l
AllInside high (bad k p) = Unit {0}

inside_before : (high : ℕ) (t : Token) (w : Walked) → Inside high t → AllInside high w → AllInside high (before t w)
inside_before high t (ok l) i h = (i, h)
inside_before high t (bad k p) i h = tt {0}

inside_after : (at high : ℕ) (x : Answer Met) (go : ℕ → Walked) → Grows at high x → ((n : ℕ) → AllInside high (go n)) → AllInside high (after x go)
inside_after at high (given (handed t) n) go h g =
    inside_before high t (go n) (omega (arith, h.1, h.3), omega (arith, h.2, h.3), h.4, h.5) (g n)
inside_after at high (given header n) go h g = tt {0}
inside_after at high (given over n) go h g = tt {0}
inside_after at high (refused k p) go h g = tt {0}

pub walk_inside : (s : List ℕ) (end : ℕ) (f : Flags) (steps at : ℕ) → AllInside (length s) (walk_from steps s end f at)
unfolding walk_from
walk_inside s end f zero at = tt {0}
walk_inside s end f (suc steps) at = inside_after at (length s) (step_at s end f at) (walk_from steps s end f) (step_grows s end f at) (walk_inside s end f steps)

-- n tokens and those of a walk
abbrev pub plus : ℕ → Walked → Result ℕ
plus n (ok l) = gives (n + length l)
plus n (bad k p) = refuses k p

pub plus_zero : (w : Walked) → counted_of w ≡ plus 0 w
plus_zero (ok l) =
    let e : length l ≡ 0 + length l = omega arith in
    ap gives e
plus_zero (bad k p) = refl

pub plus_none : (n : ℕ) → plus n (ok []) ≡ gives n
plus_none n =
    let e : n + 0 ≡ n = omega arith in
    ap gives e

pub plus_before : (n : ℕ) (t : Token) (w : Walked) → plus n (before t w) ≡ plus (n + 1) w
plus_before n t (ok l) =
    let e : n + suc (length l) ≡ n + 1 + length l = omega arith in
    ap gives e
plus_before n t (bad k p) = refl

-- the walk of a stream, from what its window is known to be
pub walk_window : (s : List ℕ) (start len : ℕ) (f : Flags) (x : Result (ℕ × ℕ)) → x ≡ window_of s start len → walk_in s f x ≡ walk_of s start len f
unfolding walk_of
walk_window s start len f x e = ap (walk_in s f) e

-- a window begins in the stream, which is not too long, and ends no earlier
abbrev pub Bounded : List ℕ → Result (ℕ × ℕ) → Type 0
Bounded s (gives (start, end)) = (start ≤ length s) × (length s ≤ 65536) × (start ≤ end)
Bounded s (refuses k p) = Unit {0}

pub window_bounded : (s : List ℕ) (start len : ℕ) (x : Result (ℕ × ℕ)) → x ≡ window_of s start len → Bounded s x
window_bounded s start len x e =
    subst (Bounded s) (sym e)
    (either (Bounded s) (leb (length s) 65536) _ _
    (λ h. either (Bounded s) (leb start (length s)) _ _
    (λ k. (leb-true start (length s) k, leb-true (length s) 65536 h, omega arith))
    (λ k. tt {0}))
    (λ h. tt {0}))
