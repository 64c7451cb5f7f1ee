-- The answer words of the calls on a kept sheet lose nothing: a word that differs stands no later than behind the right ones. Assumes
-- nothing.
use mathlib.Core.Path.{◌≡◌, refl}
use mathlib.Core.List.{List}
use Prim.Native.Nat.{ℕ, ◌*◌, ◌^◌, ◌≤◌, ◌<◌}
use native.Mathlib.Omega.{arith}
use lib.Dec.{leb}
use lib.ListN.{length, length-map}
use Rattle.cursor.specs.Answer.{Result, Maybe, just, nothing}
use Rattle.cursor.specs.Lent.{lent_answer}
use Rattle.cursor.proofs.Choice.{either}
use Rattle.tokens.specs.Walk.{Walked, ok, bad, walk_of}
use Rattle.tokens.specs.declared.Flags.{Flags}
use Rattle.tokens.specs.declared.Token.{Token}
use Rattle.sheet.specs.Sheet.{word_of, words_of}
use Rattle.sheet.specs.Kept.{old_words_of, differs_at, unless, counted_in, kept_answer}
use Rattle.sheet.proofs.Laying.{words_length}
use Rattle.doortumble.specs.Calls.{packed_of}
use Rattle.promises.specs.Packed.{unpacked_of, Bytes}
use Rattle.promises.proofs.FitsWalk.{WalkFits, walk_fits}
use Rattle.promises.proofs.Packed.{InBits, answer_kept, small_bits}
use Rattle.promises.proofs.Kept.{differs_short}

bits_on : (l : List Token) (d : Maybe ℕ) (words lent : List ℕ) → length l ≤ 65536 → length words ≤ 131072 → ((p : ℕ) → d ≡ just p → p ≤ 131072)
    → InBits (counted_in (ok l) (lent_answer (unless d words) lent))
bits_on l nothing words lent h k g =
    let P : Result ℕ → Type 0 = λ r. InBits (counted_in (ok l) r) in
    either P (leb (length words) (length lent)) _ _ (λ e. omega arith) (λ e. (omega arith, omega arith))
bits_on l (just p) words lent h k g = (omega arith, omega (arith, g p refl))

-- a form with at most two words a token
abbrev AtMostTwo : (List Token → List ℕ) → Type 0
AtMostTwo form = (l : List Token) → length (form l) ≤ length l * 2

kept_bits : (from to : List Token → List ℕ) → AtMostTwo from → AtMostTwo to → (w : Walked) (kept lent : List ℕ) → WalkFits 65536 w → InBits (kept_answer from to w kept lent)
kept_bits from to f t (ok l) kept lent h =
    bits_on l (differs_at (from l) kept) (to l) lent h (omega (arith, t l, h)) (λ p e. omega (arith, f l, h, differs_short (from l) kept p e))
kept_bits from to f t (bad k p) kept lent h = small_bits k p h

old_words : AtMostTwo old_words_of
old_words l = omega (arith, length-map l word_of)

new_words : AtMostTwo words_of
new_words l = omega (arith, words_length l)

module _ (s : List ℕ) (bytes : Bytes s) (start len : ℕ) (u32 : start < 2 ^ 32) (f : Flags) where
  pub widen_kept : (old lent : List ℕ)
      → unpacked_of (packed_of (kept_answer old_words_of words_of (walk_of s start len f) old lent)) ≡ kept_answer old_words_of words_of (walk_of s start len f) old lent
  widen_kept old lent = answer_kept _ (kept_bits old_words_of words_of old_words new_words (walk_of s start len f) old lent (walk_fits s bytes start len f u32))

  pub narrow_kept : (sheet lent : List ℕ)
      → unpacked_of (packed_of (kept_answer words_of old_words_of (walk_of s start len f) sheet lent)) ≡ kept_answer words_of old_words_of (walk_of s start len f) sheet lent
  narrow_kept sheet lent = answer_kept _ (kept_bits words_of old_words_of new_words old_words (walk_of s start len f) sheet lent (walk_fits s bytes start len f u32))
