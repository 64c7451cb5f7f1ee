-- The digits of a number, written from the last to the first. Assumes nothing.
use mathlib.Core.Path.{◌≡◌, refl, sym, ap, ◌∙◌}
use mathlib.Core.List.{List, [], ◌∷◌, ◌++◌, append_assoc}
use Prim.Native.Nat.{ℕ, zero, suc, ◌+◌, ◌-◌, ◌/◌, ◌%◌, ◌≤◌, ◌<◌}
use native.Mathlib.Omega.{arith}
use borrow.Author.Tests.{lt-ltb, le-ltb}
use lib.ListN.{length, take, drop, set, length-drop}
use lib.Seq.{set_split, drop_at, take_all, length-take-le}
use Rattle.print.specs.Text.{ascii, digit, decimal_in, each, hex_byte, hex_of}

-- a digit stands before those that were written
stored : (digits : List ℕ) (i b : ℕ) → i < length digits → drop i (set digits i b) ≡ b ∷ drop (suc i) digits
stored digits i b h = ap (drop i) (set_split digits i b h) ∙ drop_at (take i digits) (b ∷ drop (suc i) digits) i (length-take-le i digits (omega arith))

module _ (digits whole : List ℕ) (i n b : ℕ) (h : i < length digits) (w : decimal_in (suc i) n ++ drop (suc i) digits ≡ whole) where
  -- the first digit of the number
  pub spell_last : n < 10 → b ≡ digit n → drop i (set digits i b) ≡ whole
  unfolding decimal_in
  spell_last l e =
      stored digits i b h ∙ ap (λ (x : ℕ). x ∷ drop (suc i) digits) e
      ∙ (rw (lt-ltb n 10 l)) ∙ w

  -- one with others before it
  pub spell_next : 10 ≤ n → b ≡ digit (n % 10) → decimal_in i (n / 10) ++ drop i (set digits i b) ≡ whole
  unfolding decimal_in
  spell_next l e =
      ap (λ (x : List ℕ). decimal_in i (n / 10) ++ x) (stored digits i b h ∙ ap (λ (x : ℕ). x ∷ drop (suc i) digits) e)
      ∙ sym (append_assoc (decimal_in i (n / 10)) (digit (n % 10) ∷ []) (drop (suc i) digits)) ∙ (rw (le-ltb n 10 l)) ∙ w

-- all digits from the first on
pub from_first : (digits : List ℕ) (first n : ℕ) → n ≡ length digits → take (n - first) (drop first digits) ≡ drop first digits
from_first digits first n e = take_all (n - first) (drop first digits) (omega (arith, e, length-drop first digits))

-- bytes in hexadecimal: where there are none, and where there are some
pub hex_none : (s : List ℕ) → length s ≡ 0 → ascii "-" ≡ hex_of s
hex_none [] e = refl
hex_none (b ∷ s) e = absurd (omega arith)

pub hex_some : (s : List ℕ) → (length s ≡ 0 → ⊥) → each hex_byte s ≡ hex_of s
hex_some [] e = absurd (e refl)
hex_some (b ∷ s) e = refl

-- one place more, counted from the other side
pub step_as : (whole : List ℕ) (i n : ℕ) (digits : List ℕ) → 0 < i → decimal_in i n ++ drop i digits ≡ whole
    → decimal_in (suc (i - 1)) n ++ drop (suc (i - 1)) digits ≡ whole
step_as whole i n digits h w = let e : suc (i - 1) ≡ i = omega arith in ap (λ (k : ℕ). decimal_in k n ++ drop k digits) e ∙ w

-- no place is left
pub spell_end : (whole : List ℕ) (i n : ℕ) (digits : List ℕ) → i ≡ 0 → decimal_in i n ++ drop i digits ≡ whole → drop i digits ≡ whole
unfolding decimal_in
spell_end whole zero n digits h w = w
spell_end whole (suc i) n digits h w = absurd (omega arith)

pub small_digit : (n : ℕ) → n < 10 → digit (n % 10) ≡ digit n
small_digit n h = let e : n % 10 ≡ n = omega arith in ap digit e
