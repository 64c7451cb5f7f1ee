-- The words of a walk, laid over a lent sheet. Assumes nothing.
use mathlib.Core.Path.{◌≡◌, refl, sym, ap, subst, ◌∙◌}
use mathlib.Core.List.{List, [], ◌∷◌, ◌++◌, map}
use Prim.Native.Nat.{ℕ, suc, ◌+◌, ◌-◌, ◌*◌, ◌≤◌, ◌<◌}
use native.Mathlib.Omega.{arith}
use borrow.Author.Tests.{le-leb, lt-leb}
use lib.ListN.{length, get_or, take, drop, set, length-append, length-drop, length-map}
use lib.Seq.{sets, sets-eq, length-sets, take_at, take_all, take-suc, length-take-le, drop-cons, set-append_seam, append_snoc}
use Rattle.cursor.specs.Answer.{Result, gives, refuses}
use Rattle.cursor.specs.Lent.{laid}
use Rattle.cursor.specs.Refusals.{no_room_number}
use Rattle.tokens.specs.Walk.{Walked, ok, bad, walk_at, counted_of}
use Rattle.tokens.specs.declared.Flags.{Flags}
use Rattle.tokens.specs.declared.Token.{Token}
use Rattle.sheet.specs.Sheet.{words_of_token, words_per_token, words_of, sheet_answer, sheet_words, read_at}
use Rattle.sheet.specs.Noted.{Noted}
use Rattle.sheet.proofs.Noting.{read_all, read_short, read_within}

-- one word more
laid_store : (words lent : List ℕ) (a : ℕ) → length words < length lent → set (laid words lent) (length words) a ≡ laid (words ++ (a ∷ [])) lent
laid_store words lent a h =
    let n = length words in
    let e : drop n lent ≡ get_or lent n 0 ∷ drop (suc n) lent = drop-cons lent n 0 h in
    let m : length (words ++ (a ∷ [])) ≡ suc n = length-append words (a ∷ []) ∙ (omega arith) in
    ap (λ (l : List ℕ). set (words ++ l) n a) e ∙ set-append_seam words (get_or lent n 0) (drop (suc n) lent) a
    ∙ sym (append_snoc words a (drop (suc n) lent)) ∙ ap (λ (k : ℕ). words ++ (a ∷ []) ++ drop k lent) (sym m)

module _ (words lent : List ℕ) (room : length words ≤ length lent) (i : ℕ) where
  -- the first i words are laid, and then one more
  pub laid_next : (sheet : List ℕ) → i < length words → sheet ≡ laid (take i words) lent → set sheet i (get_or words i 0) ≡ laid (take (i + 1) words) lent
  laid_next sheet h e =
      let k : length (take i words) ≡ i = length-take-le i words (omega arith) in
      let m : suc i ≡ i + 1 = omega arith in
      let q : length (take i words) < length lent = omega (arith, k) in
      ap (λ (x : List ℕ). set x i (get_or words i 0)) e ∙ ap (λ (j : ℕ). set (laid (take i words) lent) j (get_or words i 0)) (sym k)
      ∙ laid_store (take i words) lent (get_or words i 0) q ∙ ap (λ (x : List ℕ). laid x lent) (sym (take-suc words i 0 h) ∙ ap (λ (j : ℕ). take j words) m)

  pub laid_kept : (sheet : List ℕ) → i ≤ length words → sheet ≡ laid (take i words) lent → length sheet ≡ length lent
  laid_kept sheet h e =
      let k : length (take i words) ≡ i = length-take-le i words h in
      omega (arith, ap length e, k, length-append (take i words) (drop (length (take i words)) lent), length-drop (length (take i words)) lent)

  pub laid_whole : (sheet : List ℕ) → i ≡ length words → sheet ≡ laid (take i words) lent → sheet ≡ laid words lent
  laid_whole sheet h e = e ∙ ap (λ (x : List ℕ). laid x lent) (take_all i words (omega arith))

-- a walk that has n tokens
pub counted_is : (w : Walked) (n : ℕ) → counted_of w ≡ gives n → (l : List Token) × ((w ≡ ok l) × (length l ≡ n))
counted_is (ok l) n e = (l, (refl, cc))
counted_is (bad k p) n e = let z : ◌≡◌ {A = ℕ} 0 1 = cc in absurd (omega arith)

-- a walk that is refused
pub walk_refused : (w : Walked) (lent : List ℕ) (k p : ℕ) → counted_of w ≡ refuses k p → (refuses k p ≡ sheet_answer w lent) × (lent ≡ sheet_words w lent)
walk_refused (ok l) lent k p e = let z : ◌≡◌ {A = ℕ} 0 1 = cc in absurd (omega arith)
walk_refused (bad m q) lent k p e = (sym e, refl)

-- what is said of a walk is said of the same walk under another name
pub walk_as : (v w : Walked) (lent left : List ℕ) (r : Result ℕ) → w ≡ v → (r ≡ sheet_answer w lent) × (left ≡ sheet_words w lent) → (r ≡ sheet_answer v lent) × (left ≡ sheet_words v lent)
walk_as v w lent left r e h = subst (λ (x : Walked). (r ≡ sheet_answer x lent) × (left ≡ sheet_words x lent)) e h

-- words set from the front on stand at the front
pub front : (lent words : List ℕ) → length words ≤ length lent → take (length words) (sets lent 0 words) ≡ words
front lent words h =
    let b : 0 + length words ≤ length lent = omega arith in
    ap (take (length words)) (sets-eq words lent 0 b) ∙ take_at words (drop (0 + length words) lent) (length words) refl

-- and where there is room they are laid
pub set_laid : (lent words : List ℕ) → length words ≤ length lent → sets lent 0 words ≡ laid words lent
set_laid lent words h =
    let b : 0 + length words ≤ length lent = omega arith in
    let z : 0 + length words ≡ length words = omega arith in
    sets-eq words lent 0 b ∙ ap (λ (i : ℕ). words ++ drop i lent) z

-- a token has so many words
pub words_length : (l : List Token) → length (words_of l) ≡ length l * words_per_token
words_length [] = refl
words_length (t ∷ l) = length-append (words_of_token t) (words_of l) ∙ (omega (arith, words_length l))

-- a walk of n tokens whose numbers were noted in a buffer
module _ (s : List ℕ) (end : ℕ) (f : Flags) (start n : ℕ) (c : counted_of (walk_at s end f start) ≡ gives n) where
  pub all_read : (l : List Token) × ((walk_at s end f start ≡ ok l) × (read_at s end f start ≡ l) × (length l ≡ n))
  all_read =
      let y = counted_is (walk_at s end f start) n c in
      (y.0, (y.1.0, read_all s end f start y.0 y.1.0, y.1.1))

  -- there are no more tokens than bytes from the start on, nor than places where one may begin
  pub few_tokens : (n ≤ length s - start) × (n ≤ end - start)
  few_tokens =
      let y = all_read in (
        omega (arith, y.1.2, ap length y.1.1, read_short s end f start),
        omega (arith, y.1.2, ap length y.1.1, read_within s end f start),
      )

  noted_front : (words lent left : List ℕ) (m : ℕ) → length words ≡ m → left ≡ sets lent 0 words → m ≤ length left → take m left ≡ words
  noted_front words lent left m e k room =
      let b : length words ≤ length lent = omega (arith, e, ap length k, length-sets lent 0 words) in
      ap (take m) k ∙ ap (λ (i : ℕ). take i (sets lent 0 words)) (sym e) ∙ front lent words b

  -- a number for each token
  pub noted : (g : Token → ℕ) (lent left : List ℕ) → left ≡ sets lent 0 (map g (read_at s end f start)) → n ≤ length left
      → take n left ≡ map g (read_at s end f start)
  noted g lent left k room =
      let y = all_read in
      noted_front (map g (read_at s end f start)) lent left n (length-map (read_at s end f start) g ∙ ap length y.1.1 ∙ y.1.2) k room

  -- the sheet's words
  pub word_count : length (words_of (read_at s end f start)) ≡ n * words_per_token
  word_count =
      let y = all_read in
      words_length (read_at s end f start) ∙ ap (λ (k : ℕ). k * words_per_token) (ap length y.1.1 ∙ y.1.2)

  pub words_noted : (lent left : List ℕ) → left ≡ sets lent 0 (words_of (read_at s end f start)) → Noted s end f start n left
  words_noted lent left k room = noted_front (words_of (read_at s end f start)) lent left (n * words_per_token) word_count k room

  -- the answer and the sheet, where its words are laid and where they have no room
  pub sheet_laid : (lent left : List ℕ) → n * words_per_token ≤ length lent → left ≡ laid (words_of (read_at s end f start)) lent
      → (gives n ≡ sheet_answer (walk_at s end f start) lent) × (left ≡ sheet_words (walk_at s end f start) lent)
  sheet_laid lent left h k =
      let y = all_read in
      let w : words_of (read_at s end f start) ≡ words_of y.0 = ap words_of y.1.1 in
      let b = le-leb (length (words_of y.0)) (length lent) (omega (arith, ap length w, word_count)) in
      walk_as (walk_at s end f start) (ok y.0) lent left (gives n) (sym y.1.0)
      (ap gives (sym y.1.2) ∙ rw b, k ∙ ap (λ (x : List ℕ). laid x lent) w ∙ rw b)

  pub sheet_short : (lent : List ℕ) → length lent < n * words_per_token
      → (refuses no_room_number (n * words_per_token) ≡ sheet_answer (walk_at s end f start) lent) × (lent ≡ sheet_words (walk_at s end f start) lent)
  sheet_short lent h =
      let y = all_read in
      let m : n * words_per_token ≡ length (words_of y.0) = sym word_count ∙ ap (λ (l : List Token). length (words_of l)) y.1.1 in
      let b = lt-leb (length (words_of y.0)) (length lent) (omega (arith, m)) in
      walk_as (walk_at s end f start) (ok y.0) lent lent (refuses no_room_number (n * words_per_token)) (sym y.1.0) (ap (refuses no_room_number) m ∙ rw b, rw b)
