-- The numbers of a body's own tokens, and words by them. Assumes nothing.
use mathlib.Core.Path.{◌≡◌, refl, sym, ap, ◌∙◌}
use mathlib.Core.List.{List, [], ◌∷◌, ◌++◌, map}
use Prim.Native.Nat.{ℕ, zero, suc, ◌+◌, ◌-◌, ◌≤◌, ◌<◌}
use native.Mathlib.Decide.{dec_lt}
use native.Mathlib.Omega.{arith}
use lib.ListN.{length, get_or, take, drop, set, get_or-append, get_or-eq_default, length-append, length-map, length-drop, get_or-map}
use lib.Seq.{sets, get_or-take, get_or_at, length-take-le, drop-cons}
use Rattle.cursor.proofs.Units.{tail}
use Rattle.nest.specs.Nested.{renumbered}
use Rattle.nest.specs.Pieces.{numbers_to, set_at}

module _ (numbers : List ℕ) (k n : ℕ) (h : k ≤ length numbers) where
  pub number_in : (i : ℕ) → i < k → get_or numbers i 0 ≡ get_or (numbers_to k n numbers) i 0
  number_in i l =
      sym (get_or-append (take k numbers) (n ∷ []) 0 i (omega (arith, length-take-le k numbers h)) ∙ get_or-take k numbers i 0 l)

  pub number_last : (i : ℕ) → i ≡ k → n ≡ get_or (numbers_to k n numbers) i 0
  number_last i e =
      sym (ap (λ (j : ℕ). get_or (numbers_to k n numbers) j 0) e ∙ get_or_at (take k numbers) n [] 0 k (length-take-le k numbers h))

  pub number_out : (i : ℕ) → k < i → 0 ≡ get_or (numbers_to k n numbers) i 0
  number_out i l =
      sym (get_or-eq_default (numbers_to k n numbers) 0 (omega (arith, length-append (take k numbers) (n ∷ []), length-take-le k numbers h)))

  -- where each number is its place, and the next one too
  pub number_alone : n ≡ k → ((i : ℕ) → i < k → get_or numbers i 0 ≡ i) → (i : ℕ) → i ≤ k → get_or (numbers_to k n numbers) i 0 ≡ i
  number_alone e f i l = elim (dec_lt i k) [ yes m ↦ sym (number_in i m) ∙ f i m | no m ↦ let q : i ≡ k = omega arith in sym (number_last i q) ∙ e ∙ sym q ]

-- where each number is its place, words stay
same_word : (numbers : List ℕ) (k w : ℕ) → ((i : ℕ) → i ≤ k → get_or numbers i 0 ≡ i) → w ≤ k → renumbered numbers w ≡ w
same_word numbers k zero h l = refl
same_word numbers k (suc i) h l = ap suc (h i (omega arith))

pub same_words : (numbers : List ℕ) (k : ℕ) (words : List ℕ) → ((i : ℕ) → i ≤ k → get_or numbers i 0 ≡ i) → ((n : ℕ) → n < length words → get_or words n 0 ≤ k)
    → map (renumbered numbers) words ≡ words
same_words numbers k [] h l = refl
same_words numbers k (w ∷ words) h l =
    let a = same_word numbers k w h (l 0 (omega arith)) in
    let b = same_words numbers k words h (λ n q. l (suc n) (omega arith)) in
    λ i. a i ∷ b i

-- words set at their numbers, one at a time
pub set_on : (numbers words table : List ℕ) (i : ℕ) → i < length numbers → i < length words
    → set_at (drop i numbers) (drop i words) table ≡ set_at (drop (suc i) numbers) (drop (suc i) words) (set table (get_or numbers i 0) (get_or words i 0))
set_on numbers words table i h k = rw (drop-cons numbers i 0 h, drop-cons words i 0 k)

pub set_none : (numbers words table : List ℕ) (i : ℕ) → length numbers ≤ i → set_at (drop i numbers) words table ≡ table
set_none [] words table i h = none i
  where
    none : (i : ℕ) → set_at (drop i []) words table ≡ table
    none zero = refl
    none (suc i) = refl
set_none (x ∷ numbers) words table zero h = absurd (omega arith)
set_none (x ∷ numbers) words table (suc i) h = set_none numbers words table i (omega arith)

pub set_next : (numbers words table next : List ℕ) (k n i a w : ℕ) → i < k → k ≤ length numbers → k ≤ length words → a ≡ get_or numbers i 0
    → w ≡ renumbered (numbers_to k n numbers) (get_or words i 0) → next ≡ set table a w
    → set_at (drop (i + 1) (take k numbers)) (drop (i + 1) (map (renumbered (numbers_to k n numbers)) (take k words))) next
    ≡ set_at (drop i (take k numbers)) (drop i (map (renumbered (numbers_to k n numbers)) (take k words))) table
set_next numbers words table next k n i a w l h j e q r =
    let f = renumbered (numbers_to k n numbers) in
    let N = take k numbers in
    let W = map f (take k words) in
    let m : i + 1 ≡ suc i = omega arith in
    let x : get_or N i 0 ≡ a = get_or-take k numbers i 0 l ∙ sym e in
    let y : get_or W i 0 ≡ w = get_or-map f (take k words) i 0 ∙ ap f (get_or-take k words i 0 l) ∙ sym q in
    sym
    (set_on N W table i (omega (arith, length-take-le k numbers h)) (omega (arith, length-map (take k words) f, length-take-le k words j))
    ∙ ap (λ (b : ℕ). set_at (drop (suc i) N) (drop (suc i) W) (set table b (get_or W i 0))) x
    ∙ ap (λ (b : ℕ). set_at (drop (suc i) N) (drop (suc i) W) (set table a b)) y
    ∙ ap (λ (z : ℕ). set_at (drop z N) (drop z W) (set table a w)) (sym m)
    ∙ ap (set_at (drop (i + 1) N) (drop (i + 1) W)) (sym r))

-- words set at numbers that follow one another
pub set_run : (numbers words table : List ℕ) (n : ℕ) → length words ≡ length numbers → ((i : ℕ) → i < length numbers → get_or numbers i 0 ≡ n + i)
    → set_at numbers words table ≡ sets table n words
set_run [] [] table n e f = refl
set_run [] (w ∷ words) table n e f = absurd (omega (arith, e))
set_run (x ∷ numbers) [] table n e f = absurd (omega (arith, e))
set_run (x ∷ numbers) (w ∷ words) table n e f =
    let q : x ≡ n = f 0 (omega arith) ∙ omega arith in
    set_run numbers words (set table x w) (suc n) (omega (arith, e)) (λ i l. f (suc i) (omega (arith, l)) ∙ omega arith)
    ∙ ap (λ (m : ℕ). sets (set table m w) (suc n) words) q

-- a word that is not 0 is the owner's number plus 1
pub renumbered_is : (numbers : List ℕ) (w m : ℕ) → 0 < w → m ≡ get_or numbers (w - 1) 0 → m + 1 ≡ renumbered numbers w
renumbered_is numbers zero m h e = absurd (omega arith)
renumbered_is numbers (suc i) m h e =
    let j : suc i - 1 ≡ i = omega arith in
    let q : m ≡ get_or numbers i 0 = e ∙ ap (λ (k : ℕ). get_or numbers k 0) j in
    omega (arith, q)

-- how long the end of a slice is
pub part_length : (s : List ℕ) (at : ℕ) → length (take (length s - at) (drop at s)) ≡ length s - at
part_length s at = ap length (tail s at) ∙ length-drop at s
