-- Words that a case's data holds. Assumes nothing.
use Rattle.std.specs.Prelude.{min}
use mathlib.Core.Path.{◌≡◌, refl, sym, ap, ◌∙◌}
use mathlib.Core.List.{List, [], ◌∷◌, ◌++◌, append-nil}
use Prim.Native.Nat.{ℕ, zero, suc, ◌+◌, ◌*◌, ◌≤◌, ◌<◌}
use native.Mathlib.Omega.{arith}
use native.Mathlib.Decide.{dec_lt}
use borrow.Author.Tests.{le-leb, lt-leb}
use lib.Dec.{leb}
use lib.ListN.{length, get_or, drop, drop_of_length-le}
use Rattle.cursor.specs.Answer.{pick}
use Rattle.cursor.specs.Lent.{laid}
use Rattle.cursor.specs.Reads.{number_of}
use Rattle.stream_answers.specs.Kept.{stored_words}

pub stored_length : (n : ℕ) (bytes : List ℕ) (at : ℕ) → length (stored_words n bytes at) ≡ n
stored_length zero bytes at = refl
stored_length (suc n) bytes at = let e = stored_length n bytes (at + 8) in omega (arith, e)

pub stored_at : (n : ℕ) (bytes : List ℕ) (at i : ℕ) → i < n → get_or (stored_words n bytes at) i 0 ≡ number_of bytes (at + 8 * i) 8
stored_at zero bytes at i h = absurd (omega arith)
stored_at (suc n) bytes at zero h =
    let e : at ≡ at + 8 * 0 = omega arith in
    ap (λ (k : ℕ). number_of bytes k 8) e
stored_at (suc n) bytes at (suc i) h =
    let e : at + 8 + 8 * i ≡ at + 8 * suc i = omega arith in
    stored_at n bytes (at + 8) i (omega arith) ∙ ap (λ (k : ℕ). number_of bytes k 8) e

-- as many words as are lent leave nothing of these
pub laid_all : (words lent : List ℕ) → length words ≡ length lent → laid words lent ≡ words
laid_all words lent e =
    let h : length lent ≤ length words = omega (arith, e) in
    ap (λ (l : List ℕ). words ++ l) (drop_of_length-le lent h) ∙ append-nil words

-- a number, or the most that counts
pub count_within : (x n most : ℕ) → x ≡ min n most → x ≡ pick (leb n most) n most
count_within x n most e =
    elim (dec_lt most n) [
      | yes g ↦ rw (lt-leb n most g) (omega (arith, e, g))
      | no g ↦ rw (le-leb n most (omega (arith, g))) (omega (arith, e, g))
    ]
