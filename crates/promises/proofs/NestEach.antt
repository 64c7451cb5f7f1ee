-- Each window's own tokens are those of its walk, and their words those of its own owner table. Assumes nothing.
use mathlib.Core.Path.{◌≡◌, refl, sym, ap, subst, ◌∙◌}
use mathlib.Core.Bool.{Bool, true, false}
use mathlib.Core.List.{List, [], ◌∷◌, ◌++◌, map}
use Prim.Native.Nat.{ℕ, suc, ◌+◌, ◌≤◌}
use native.Mathlib.Omega.{arith}
use borrow.Author.Tests.{eq-eqb, ne_eqb}
use lib.Dec.{eqb}
use lib.ListN.{length, length-map}
use Rattle.cursor.specs.Answer.{gives, pick}
use Rattle.tokens.specs.Walk.{Walked, ok, walk_at, window_of, walk_in}
use Rattle.tokens.specs.declared.Flags.{Flags}
use Rattle.tokens.specs.declared.Token.{Token}
use Rattle.tokens.proofs.Steps.{walk_window}
use Rattle.sheet.specs.Sheet.{words_of, mark_of}
use Rattle.body.specs.Reader.{verdict_on}
use Rattle.body.specs.Verdict as verdict
use Rattle.body.specs.Verdict.{a_body, Judged, read}
use Rattle.body.proofs.Answers.{verdict_right}
use Rattle.nest.specs.Nested.{Entry, Own, tokens_of, numbers_from, renumbered, entries_of}
use Rattle.promises.specs.NestWindows as w
use Rattle.promises.specs.NestWindows.{Window, window, Walk, a_token, an_instance, a_header, its_end, Values, no_more, another, at_level, numbers_at, OnItsOwn, OuterOnItsOwn, EachOnItsOwn}
use Rattle.promises.proofs.NestComplete.{below, walk_complete, in_stream}
use Rattle.promises.proofs.NestWalk.{Walks, nest_walks}

-- no token is above a level; no token in the values of a window's own tokens is
abbrev From : ℕ → List Entry → Type 0
From level [] = Unit {0}
From level (e ∷ l) = (level ≤ e.level) × From level l

abbrev Deep : ℕ → List Own → Type 0
Deep level [] = Unit {0}
Deep level (o ∷ l) = From (suc level) o.within × Deep level l

from_lower : (level : ℕ) (l : List Entry) → From (suc level) l → From level l
from_lower level [] x = tt {0}
from_lower level (e ∷ l) x = (omega (arith, x.0), from_lower level l x.1)

from_join : (level : ℕ) (a b : List Entry) → From level a → From level b → From level (a ++ b)
from_join level [] b x y = y
from_join level (e ∷ a) b x y = (x.0, from_join level a b x.1 y)

from_entries : (level : ℕ) (words : List ℕ) (l : List Own) → Deep level l → From level (entries_of level words l)
from_entries level words [] d = tt {0}
from_entries level [] (o ∷ l) d = tt {0}
from_entries level (v ∷ words) (o ∷ l) d =
    (omega arith, from_join level o.within (entries_of level words l) (from_lower level o.within d.0) (from_entries level words l d.1))

module _ (s : List ℕ) where
  mutual
    window_from : {level n start end : ℕ} {f : Flags} {l : List Entry} → Window s level f n start end l → From level l
    window_from {level = level} {n = n} (window {l = l} {words = words} d x i r e) =
        subst (From level) (sym e) (from_entries level (map (renumbered (numbers_from n l)) words) l (walk_deep x))

    walk_deep : {level end n at last : ℕ} {f : Flags} {l : List Own} → Walk s level end f n at l last → Deep level l
    walk_deep {level = level} (a_token e q x) = (subst (λ (o : Own). From (suc level) o.within) (sym q) (tt {0}), walk_deep x)
    walk_deep {level = level} (an_instance e v q x) = (subst (λ (o : Own). From (suc level) o.within) (sym q) (values_from v), walk_deep x)
    walk_deep (a_header e x) = walk_deep x
    walk_deep (its_end e) = tt {0}

    values_from : {level n table at count last : ℕ} {inline : Bool} {l : List Entry} → Values s level inline n table at count l last → From (suc level) l
    values_from no_more = tt {0}
    values_from (another e h x) = values_from x
    values_from {level = level} (w.Values.a_body {l = l} {m = m} e h b x q) =
        subst (From (suc level)) (sym q) (from_join (suc level) l m (window_from b) (values_from x))

-- deeper tokens are passed over
lower_differs : (level k : ℕ) → suc level ≤ k → eqb k level ≡ false
lower_differs level k h = ne_eqb k level (λ e. omega (arith, e, h))

at_skips : (level : ℕ) (a b : List Entry) → From (suc level) a → at_level level (a ++ b) ≡ at_level level b
at_skips level [] b x = refl
at_skips level (e ∷ a) b x =
    ap (λ (c : Bool). pick c (e ∷ at_level level (a ++ b)) (at_level level (a ++ b))) (lower_differs level e.level x.0) ∙ at_skips level a b x.1

numbers_skip : (level n : ℕ) (a b : List Entry) → From (suc level) a → numbers_at level n (a ++ b) ≡ numbers_at level (n + length a) b
numbers_skip level n [] b x =
    let e : n ≡ n + 0 = omega arith in
    ap (λ (z : ℕ). numbers_at level z b) e
numbers_skip level n (e ∷ a) b x =
    let z : suc n + length a ≡ n + suc (length a) = omega arith in
    ap (λ (c : Bool). pick c (n ∷ numbers_at level (suc n) (a ++ b)) (numbers_at level (suc n) (a ++ b))) (lower_differs level e.level x.0)
    ∙ numbers_skip level (suc n) a b x.1 ∙ ap (λ (m : ℕ). numbers_at level m b) z

-- a window's own tokens, their words and their numbers
module _ (level : ℕ) where
  itself : eqb level level ≡ true
  itself = eq-eqb level level refl

  first : (e : Entry) (a b : List Entry) → e.level ≡ level → From (suc level) a → at_level level (e ∷ (a ++ b)) ≡ e ∷ at_level level b
  first e a b q x =
      ap (λ (c : Bool). pick c (e ∷ at_level level (a ++ b)) (at_level level (a ++ b))) (eq-eqb e.level level q) ∙ ap (λ (l : List Entry). e ∷ l) (at_skips level a b x)

  own_tokens : (words : List ℕ) (l : List Own) → Deep level l → length words ≡ length l → map (λ e. e.token) (at_level level (entries_of level words l)) ≡ tokens_of l
  own_tokens words [] d h = refl
  own_tokens [] (o ∷ l) d h = absurd (omega (arith, h))
  own_tokens (v ∷ words) (o ∷ l) d h =
      ap (map (λ (e : Entry). e.token)) (first (record { token = o.token; level = level; word = v }) o.within (entries_of level words l) refl d.0)
      ∙ ap (λ (x : List Token). o.token ∷ x) (own_tokens words l d.1 (omega (arith, h)))

  own_words : (words : List ℕ) (l : List Own) → Deep level l → length words ≡ length l → map (λ e. e.word) (at_level level (entries_of level words l)) ≡ words
  own_words [] [] d h = refl
  own_words (v ∷ words) [] d h = absurd (omega (arith, h))
  own_words [] (o ∷ l) d h = absurd (omega (arith, h))
  own_words (v ∷ words) (o ∷ l) d h =
      ap (map (λ (e : Entry). e.word)) (first (record { token = o.token; level = level; word = v }) o.within (entries_of level words l) refl d.0)
      ∙ ap (λ (x : List ℕ). v ∷ x) (own_words words l d.1 (omega (arith, h)))

  own_numbers : (n : ℕ) (words : List ℕ) (l : List Own) → Deep level l → length words ≡ length l → numbers_at level n (entries_of level words l) ≡ numbers_from n l
  own_numbers n words [] d h = refl
  own_numbers n [] (o ∷ l) d h = absurd (omega (arith, h))
  own_numbers n (v ∷ words) (o ∷ l) d h =
      let rest = o.within ++ entries_of level words l in
      ap (λ (c : Bool). pick c (n ∷ numbers_at level (suc n) rest) (numbers_at level (suc n) rest)) itself
      ∙ ap (λ (x : List ℕ). n ∷ x)
      (numbers_skip level (suc n) o.within (entries_of level words l) d.0
      ∙ own_numbers (suc n + length o.within) words l d.1 (omega (arith, h)))

module _ (s : List ℕ) where
  -- the walk's tokens, and the grammar's words of them
  walked : {level end n at last : ℕ} {f : Flags} {l : List Own} → Walk s level end f n at l last → walk_at s end f at ≡ ok (tokens_of l)
  walked {level = level} {end = end} {n = n} {at = at} {f = f} x =
      subst (Walks (walk_at s end f at)) (walk_complete verdict_on verdict_right s x) (nest_walks s (below verdict_on verdict_right s level f.inline) end f n at)

  of_window : (level : ℕ) (f : Flags) (n start end : ℕ) (l : List Entry) → Window s level f n start end l → OnItsOwn (walk_at s end f start) level n l
  of_window level f n start end entries (window {l = l} {words = words} d x i r e) =
      let own = map (renumbered (numbers_from n l)) words in
      let deep = walk_deep s x in
      let c : length own ≡ length l =
      length-map words (renumbered (numbers_from n l)) ∙ r.each ∙ length-map (tokens_of l) mark_of ∙ length-map l (λ o. o.token)
      in
      let tokens : map (λ e. e.token) (at_level level entries) ≡ tokens_of l =
      ap (λ (z : List Entry). map (λ e. e.token) (at_level level z)) e ∙ own_tokens level own l deep c
      in
      let numbers : numbers_at level n entries ≡ numbers_from n l = ap (numbers_at level n) e ∙ own_numbers level n own l deep c in
      record {
        words = words;
        judged = subst (λ (z : Walked). Judged z (gives words)) (sym (walked x)) (read (tokens_of l) (gives words) (a_body words r));
        sheet = ap verdict.sheet_of (walked x) ∙ ap words_of (sym tokens);
        owners =
            ap (λ (z : List Entry). map (λ e. e.word) (at_level level z)) e ∙ own_words level own l deep c
            ∙ ap (λ (z : List ℕ). map (renumbered z) words) (sym numbers);
      }

-- "Level 0's words in order are those of P8's call on the stream"
pub outer_on_its_own : OuterOnItsOwn
outer_on_its_own s start len f l x =
    let e = ap (walk_in s f) (sym (in_stream s start len x.0 x.1)) ∙ walk_window s start len f (window_of s start len) refl in
    subst (λ (w : Walked). OnItsOwn w 0 0 l) e (of_window s 0 f 0 start (start + len) l x.2)

-- "and a window's, level bits off, those of P8's call on" the value
pub each_on_its_own : EachOnItsOwn
each_on_its_own s level f n start end l x = of_window s level f n start end l x
