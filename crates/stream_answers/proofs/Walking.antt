-- The lines of a walk, one token after the other. Assumes nothing.
use mathlib.Core.Path.{◌≡◌, refl, sym, ap, ◌∙◌}
use mathlib.Core.List.{List, [], ◌∷◌, ◌++◌, append_assoc}
use Prim.Native.Nat.{ℕ, ◌+◌}
use Rattle.cursor.specs.Answer.{given, refused, Result}
use Rattle.tokens.specs.Walk.{handed, over, Walked, step_at, walk_at, window_of, walk_in, walk_of, counted_of}
use Rattle.tokens.specs.declared.Flags.{Flags}
use Rattle.tokens.specs.declared.Token.{Token}
use Rattle.tokens.proofs.Steps.{walk_window, walk_is, walk_token, plus, plus_zero, plus_none, plus_before}
use Rattle.sheet.specs.Sheet.{read_at}
use Rattle.sheet.proofs.Noting.{read_is, read_token}
use Rattle.print.specs.Text.{ascii, each, line_of, refused_of}
use Rattle.stream_answers.specs.Token.{token_text}
use Rattle.stream_answers.specs.Walk.{tokens_text, last_text, listed_in, walk_text}

module _ (s : List ℕ) (end : ℕ) (f : Flags) where
  -- what is left to write when the walk stands at `at` after n tokens
  abbrev pub rest : ℕ → ℕ → List ℕ
  rest at n = tokens_text s (read_at s end f at) ++ last_text (plus n (walk_at s end f at))

  pub rest_first : (at : ℕ) → rest at 0 ≡ tokens_text s (read_at s end f at) ++ last_text (counted_of (walk_at s end f at))
  rest_first at = ap (λ (x : Result ℕ). tokens_text s (read_at s end f at) ++ last_text x) (sym (plus_zero (walk_at s end f at)))

  pub rest_next : (at n m : ℕ) (t : Token) → step_at s end f at ≡ given (handed t) m → rest at n ≡ token_text s t ++ rest m (n + 1)
  unfolding each
  rest_next at n m t e =
      ap (λ (l : List Token). tokens_text s l ++ last_text (plus n (walk_at s end f at))) (read_token s end f at m t e)
      ∙ ap (λ (x : Result ℕ). token_text s t ++ tokens_text s (read_at s end f m) ++ last_text x)
      (ap (plus n) (walk_token s end f at m t e) ∙ plus_before n t (walk_at s end f m))
      ∙ append_assoc (token_text s t) (tokens_text s (read_at s end f m)) (last_text (plus (n + 1) (walk_at s end f m)))

  pub rest_over : (at n m : ℕ) → step_at s end f at ≡ given over m → rest at n ≡ line_of (ascii "ok") (n ∷ [])
  unfolding each
  rest_over at n m e =
      ap (λ (l : List Token). tokens_text s l ++ last_text (plus n (walk_at s end f at))) (read_is s end f at (given over m) e)
      ∙ ap last_text (ap (plus n) (walk_is s end f at (given over m) e) ∙ plus_none n)

  pub rest_refused : (at n k p : ℕ) → step_at s end f at ≡ refused k p → rest at n ≡ refused_of (record { number = k; place = p })
  unfolding each
  rest_refused at n k p e =
      ap (λ (l : List Token). tokens_text s l ++ last_text (plus n (walk_at s end f at))) (read_is s end f at (refused k p) e)
      ∙ ap (λ (w : Walked). last_text (plus n w)) (walk_is s end f at (refused k p) e)

-- the text of a walk, from what its window is known to be
pub walk_told : (s : List ℕ) (start len : ℕ) (f : Flags) (x : Result (ℕ × ℕ)) → x ≡ window_of s start len
    → walk_text s start len f ≡ tokens_text s (listed_in s f x) ++ last_text (counted_of (walk_in s f x))
walk_told s start len f x e =
    ap (λ (y : Result (ℕ × ℕ)). tokens_text s (listed_in s f y) ++ last_text (counted_of (walk_of s start len f))) (sym e)
    ∙ ap (λ (w : Walked). tokens_text s (listed_in s f x) ++ last_text (counted_of w)) (sym (walk_window s start len f x e))
