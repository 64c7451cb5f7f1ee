-- The old words in a sheet of two words a token. Assumes nothing.
use mathlib.Core.Path.{◌≡◌, refl, sym, ap, subst, ◌∙◌}
use mathlib.Core.Bool.{Bool, true, false}
use mathlib.Core.List.{List, [], ◌∷◌}
use Prim.Native.Nat.{ℕ, zero, suc, ◌+◌, ◌*◌, ◌/◌, ◌≤◌, ◌<◌}
use native.Mathlib.Omega.{arith}
use borrow.Author.Tests.{le-leb, lt-leb}
use lib.Dec.{leb}
use lib.ListN.{length, get_or, length-map}
use Rattle.cursor.specs.Answer.{Result, gives, refuses, Maybe, just, nothing, pick}
use Rattle.cursor.specs.Lent.{laid, lent_answer, lent_left}
use Rattle.cursor.specs.Refusals.{no_room_number}
use Rattle.tokens.specs.Walk.{Walked, ok, bad}
use Rattle.tokens.specs.declared.Token.{Token}
use Rattle.sheet.specs.Sheet.{word_of, words_of, without_bit}
use Rattle.sheet.specs.Kept.{old_words_of, differs_at, unless, counted_in, beside_answer, kept_answer, kept_words}
use Rattle.sheet.proofs.Keeping.{accepted, only_equal}
use Rattle.sheet.proofs.OldWord.{old_word}
use Rattle.kept.specs.Narrow.{old_of}

pub old_length : (words : List ℕ) → length (old_of words) ≡ length words / 2
old_length [] = omega arith
old_length (a ∷ []) = omega arith
old_length (a ∷ b ∷ words) = omega (arith, old_length words)

pub old_at : (words : List ℕ) (i : ℕ) → i < length (old_of words) → get_or (old_of words) i 0 ≡ without_bit (get_or words (2 * i) 0)
old_at [] i h = absurd (omega arith)
old_at (a ∷ []) i h = absurd (omega arith)
old_at (a ∷ b ∷ words) zero h = refl
old_at (a ∷ b ∷ words) (suc i) h =
    let e : 2 * suc i ≡ suc (suc (2 * i)) = omega arith in
    old_at words i (omega arith) ∙ ap (λ (k : ℕ). without_bit (get_or (a ∷ b ∷ words) k 0)) (sym e)

-- words in lent ones, where these are too few and where they are not
pub no_room : (words lent : List ℕ) (n : ℕ) → n ≡ length words → length lent < n
    → (refuses no_room_number n ≡ lent_answer (gives words) lent) × (lent ≡ lent_left (gives words) lent)
no_room words lent n e h =
    let b = lt-leb (length words) (length lent) (omega (arith, e, h)) in
    (ap (refuses no_room_number) e ∙ ap (λ (t : Bool). pick t (gives (length words)) (refuses no_room_number (length words))) (sym b), ap (λ (t : Bool). pick t (laid words lent) lent) (sym b))

pub in_room : (words lent left : List ℕ) (n : ℕ) → n ≡ length words → n ≤ length lent → left ≡ laid words lent
    → (gives n ≡ lent_answer (gives words) lent) × (left ≡ lent_left (gives words) lent)
in_room words lent left n e h l =
    let b = le-leb (length words) (length lent) (omega (arith, e, h)) in
    (ap (λ (k : ℕ). gives k) e ∙ ap (λ (t : Bool). pick t (gives (length words)) (refuses no_room_number (length words))) (sym b), l ∙ ap (λ (t : Bool). pick t (laid words lent) lent) (sym b))

-- of a stream's sheet they are the old sheet's
pub old_of_lem : (l : List Token) → old_of (words_of l) ≡ old_words_of l
old_of_lem [] = refl
old_of_lem (t ∷ l) = ap (λ (x : ℕ). x ∷ old_of (words_of l)) (old_word t) ∙ ap (λ (x : List ℕ). word_of t ∷ x) (old_of_lem l)

-- where the sheet is accepted, its old words are what the lent ones hold, or have no room
one_count : (b : Bool) (l : List Token) (m : ℕ) → length l ≡ m → pick b (gives m) (refuses no_room_number m) ≡ counted_in (ok l) (pick b (gives m) (refuses no_room_number m))
one_count true l m e = ap (λ (k : ℕ). gives k) (sym e)
one_count false l m e = refl

on_accepted : (l : List Token) (d : Maybe ℕ) (words lent : List ℕ) → d ≡ nothing → length words ≡ length l
    → (lent_answer (gives words) lent ≡ counted_in (ok l) (lent_answer (unless d words) lent)) × (lent_left (gives words) lent ≡ lent_left (unless d words) lent)
on_accepted l nothing words lent e h = (one_count (leb (length words) (length lent)) l (length words) (sym h), refl)
on_accepted l (just n) words lent e h = let z : ◌≡◌ {A = ℕ} 0 1 = cc in absurd (omega arith)

pub narrow_accepted : (w : Walked) (kept lent : List ℕ) (n : ℕ) → beside_answer words_of w kept ≡ gives n
    → (lent_answer (gives (old_of kept)) lent ≡ kept_answer words_of old_words_of w kept lent) × (lent_left (gives (old_of kept)) lent ≡ kept_words words_of old_words_of w kept lent)
narrow_accepted w kept lent n e =
    let y = accepted words_of w kept n e in
    let l = y.0 in
    let o : old_of kept ≡ old_words_of l = ap old_of (only_equal (words_of l) kept y.1.2) ∙ old_of_lem l in
    let a = on_accepted l (differs_at (words_of l) kept) (old_words_of l) lent y.1.2 (length-map l word_of) in
    let x : (lent_answer (gives (old_of kept)) lent ≡ kept_answer words_of old_words_of (ok l) kept lent) × (lent_left (gives (old_of kept)) lent ≡ kept_words words_of old_words_of (ok l) kept lent) =
    (ap (λ (x : List ℕ). lent_answer (gives x) lent) o ∙ a.0, ap (λ (x : List ℕ). lent_left (gives x) lent) o ∙ a.1) in
    subst (λ (v : Walked). (lent_answer (gives (old_of kept)) lent ≡ kept_answer words_of old_words_of v kept lent) × (lent_left (gives (old_of kept)) lent ≡ kept_words words_of old_words_of v kept lent)) (sym y.1.0) x
