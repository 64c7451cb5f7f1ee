-- What the stacks and the buffers hold of a walk's own tokens, those of the bodies in them among them. Assumes nothing.
use mathlib.Core.Path.{◌≡◌, refl, sym, ap, subst, ◌∙◌}
use mathlib.Core.List.{List, [], ◌∷◌, ◌++◌, map, append-nil, append_assoc}
use Prim.Native.Nat.{ℕ, zero, suc, ◌+◌, ◌-◌, ◌*◌, ◌≤◌, ◌<◌}
use native.Mathlib.Nat.{add-zero}
use native.Mathlib.Omega.{arith}
use lib.ListN.{length, get_or, take, drop, set, length-append, length-map, length-set}
use lib.Seq.{sets, set-set, set_comm, take-suc-set, length-sets}
use Rattle.tokens.specs.declared.Token.{Token}
use Rattle.sheet.specs.Sheet.{mark_of, marks_of}
use Rattle.nest.specs.Nested.{Entry, Own, own, numbers_from, entries_of, tokens_of, words_at, sheet_of, owners_of}
use Rattle.nest.specs.Pieces.{numbers_of, count_in, sheet_own, table_own, set_at}

-- more numbers set behind those that are set, and one set before them
pub sets_more : (a b l : List ℕ) (i : ℕ) → sets (sets l i a) (i + length a) b ≡ sets l i (a ++ b)
sets_more [] b l i = ap (λ (k : ℕ). sets l k b) (add-zero i)
sets_more (x ∷ a) b l i =
    let e : i + suc (length a) ≡ suc i + length a = omega arith in
    ap (λ (k : ℕ). sets (sets (set l i x) (suc i) a) k b) e ∙ sets_more a b (set l i x) (suc i)

pub sets_behind : (a b l : List ℕ) (i j : ℕ) → j ≡ i + length a → sets (sets l i a) j b ≡ sets l i (a ++ b)
sets_behind a b l i j e = ap (λ (k : ℕ). sets (sets l i a) k b) e ∙ sets_more a b l i

pub set_before : (c l : List ℕ) (i j a : ℕ) → j < i → set (sets l i c) j a ≡ sets (set l j a) i c
set_before [] l i j a h = refl
set_before (x ∷ c) l i j a h =
    set_before c (set l i x) (suc i) j a (omega arith) ∙ ap (λ (y : List ℕ). sets y (suc i) c) (set_comm l i j x a (λ e. omega arith))

-- two numbers set again
pub sets_again : (c l : List ℕ) (i a b x y : ℕ) → sets (sets l i (a ∷ b ∷ c)) i (x ∷ y ∷ []) ≡ sets l i (x ∷ y ∷ c)
sets_again c l i a b x y =
    let first = set (set l i a) (suc i) b in
    ap (λ (z : List ℕ). set z (suc i) y) (set_before c first (suc (suc i)) i x (omega arith)) ∙ set_before c (set first i x) (suc (suc i)) (suc i) y (omega arith)
    ∙ ap (λ (z : List ℕ). sets (set z (suc i) y) (suc (suc i)) c) (set_comm (set l i a) (suc i) i b x (λ e. omega arith))
    ∙ ap (λ (z : List ℕ). sets z (suc (suc i)) c) (set-set (set (set l i a) i x) (suc i) b y)
    ∙ ap (λ (z : List ℕ). sets (set z (suc i) y) (suc (suc i)) c) (set-set l i a x)

-- how many words entries have, and their words in parts
pub sheet_length : (l : List Entry) → length (sheet_of l) ≡ length l * 2
sheet_length [] = refl
sheet_length (e ∷ l) = omega (arith, sheet_length l)

pub sheet_append : (a b : List Entry) → sheet_of (a ++ b) ≡ sheet_of a ++ sheet_of b
sheet_append [] b = refl
sheet_append (e ∷ a) b = ap (λ (l : List ℕ). words_at e.level e.token ++ l) (sheet_append a b)

pub owners_append : (a b : List Entry) → owners_of (a ++ b) ≡ owners_of a ++ owners_of b
owners_append [] b = refl
owners_append (e ∷ a) b = ap (λ (l : List ℕ). e.word ∷ l) (owners_append a b)

-- one token more
pub count_snoc : (d : List Own) (t : Token) (c : List Entry) → count_in (d ++ (own t c ∷ [])) ≡ suc (count_in d) + length c
count_snoc [] t c = omega arith
count_snoc (o ∷ d) t c = omega (arith, count_snoc d t c)

pub marks_snoc : (d : List Own) (t : Token) (c : List Entry) → marks_of (tokens_of (d ++ (own t c ∷ []))) ≡ marks_of (tokens_of d) ++ (mark_of t ∷ [])
marks_snoc [] t c = refl
marks_snoc (o ∷ d) t c = ap (λ (l : List ℕ). mark_of o.token ∷ l) (marks_snoc d t c)

pub numbers_snoc : (d : List Own) (n : ℕ) (t : Token) (c : List Entry) → numbers_of n (d ++ (own t c ∷ [])) ≡ numbers_of n d ++ ((n + count_in d) ∷ [])
numbers_snoc [] n t c = ap (λ (k : ℕ). k ∷ []) (sym (add-zero n))
numbers_snoc (o ∷ d) n t c =
    let e : suc n + length o.within + count_in d ≡ n + count_in (o ∷ d) = omega arith in
    ap (λ (l : List ℕ). n ∷ l) (numbers_snoc d (suc n + length o.within) t c ∙ ap (λ (k : ℕ). numbers_of (suc n + length o.within) d ++ (k ∷ [])) e)

pub numbers_all : (d : List Own) (n : ℕ) → numbers_from n d ≡ numbers_of n d ++ ((n + count_in d) ∷ [])
numbers_all [] n = ap (λ (k : ℕ). k ∷ []) (sym (add-zero n))
numbers_all (o ∷ d) n =
    let e : suc n + length o.within + count_in d ≡ n + count_in (o ∷ d) = omega arith in
    ap (λ (l : List ℕ). n ∷ l) (numbers_all d (suc n + length o.within) ∙ ap (λ (k : ℕ). numbers_of (suc n + length o.within) d ++ (k ∷ [])) e)

pub numbers_length : (d : List Own) (n : ℕ) → length (numbers_of n d) ≡ length d
numbers_length [] n = refl
numbers_length (o ∷ d) n = ap suc (numbers_length d (suc n + length o.within))

pub numbers_below : (d : List Own) (n i : ℕ) → i < length d → get_or (numbers_of n d) i 0 < n + count_in d
numbers_below [] n i h = absurd (omega arith)
numbers_below (o ∷ d) n zero h = omega arith
numbers_below (o ∷ d) n (suc i) h = omega (arith, numbers_below d (suc n + length o.within) i (omega arith))

-- as many own tokens as there are are among those numbered
pub few : (d : List Own) → length d ≤ count_in d
few [] = omega arith
few (o ∷ d) = omega (arith, few d)

-- where no others are, each number is one more than the one before it
pub numbers_alone : (d : List Own) (n i : ℕ) → count_in d ≡ length d → i < length d → get_or (numbers_of n d) i 0 ≡ n + i
numbers_alone [] n i e h = absurd (omega arith)
numbers_alone (o ∷ d) n zero e h = omega arith
numbers_alone (o ∷ d) n (suc i) e h =
    omega (arith, e, few d, numbers_alone d (suc n + length o.within) i (omega (arith, e, few d)) (omega arith))

module _ (level : ℕ) where
  pub sheet_snoc : (d : List Own) (t : Token) (c : List Entry)
      → sheet_own level (d ++ (own t c ∷ [])) ≡ sheet_own level d ++ (words_at level t ++ sheet_of c)
  sheet_snoc [] t c = ap (λ (l : List ℕ). words_at level t ++ l) (append-nil (sheet_of c))
  sheet_snoc (o ∷ d) t c =
      ap (λ (l : List ℕ). words_at level o.token ++ (sheet_of o.within ++ l)) (sheet_snoc d t c)
      ∙ ap (λ (l : List ℕ). words_at level o.token ++ l) (sym (append_assoc (sheet_of o.within) (sheet_own level d) (words_at level t ++ sheet_of c)))

  pub own_length : (d : List Own) → length (sheet_own level d) ≡ count_in d * 2
  own_length [] = refl
  own_length (o ∷ d) = omega (arith, own_length d, sheet_length o.within, length-append (sheet_of o.within) (sheet_own level d))

  -- the sheet, after one token more, after a body in its values, and after its end
  module _ (first : ℕ) (sheet₀ sheet : List ℕ) (d : List Own) (n : ℕ) (h : n ≡ first + count_in d) where
    pub sheet_token : (t : Token) → sheet ≡ sets sheet₀ (first * 2) (sheet_own level d)
        → sets sheet (n * 2) (words_at level t) ≡ sets sheet₀ (first * 2) (sheet_own level (d ++ (own t [] ∷ [])))
    sheet_token t e =
        ap (λ (x : List ℕ). sets x (n * 2) (words_at level t)) e
        ∙ sets_behind (sheet_own level d) (words_at level t) sheet₀ (first * 2) (n * 2) (omega (arith, h, own_length d))
        ∙ ap (sets sheet₀ (first * 2)) (sym (sheet_snoc d t []))

    pub sheet_ended : (t u : Token) (c : List Entry) → sheet ≡ sets sheet₀ (first * 2) (sheet_own level (d ++ (own t c ∷ [])))
        → sets sheet (n * 2) (words_at level u) ≡ sets sheet₀ (first * 2) (sheet_own level (d ++ (own u c ∷ [])))
    sheet_ended t u c e =
        let i = first * 2 in
        let j : n * 2 ≡ i + length (sheet_own level d) = omega (arith, h, own_length d) in
        let w = words_at level t ++ sheet_of c in
        ap (λ (x : List ℕ). sets x (n * 2) (words_at level u)) (e ∙ ap (sets sheet₀ i) (sheet_snoc d t c) ∙ sym (sets_behind (sheet_own level d) w sheet₀ i (n * 2) j))
        ∙ sets_again (sheet_of c) (sets sheet₀ i (sheet_own level d)) (n * 2) _ _ _ _
        ∙ sets_behind (sheet_own level d) (words_at level u ++ sheet_of c) sheet₀ i (n * 2) j ∙ ap (sets sheet₀ i) (sym (sheet_snoc d u c))

  pub sheet_body : (first : ℕ) (sheet₀ sheet : List ℕ) (d : List Own) (t : Token) (c l : List Entry) (n : ℕ)
      → n ≡ first + count_in (d ++ (own t c ∷ [])) → sheet ≡ sets sheet₀ (first * 2) (sheet_own level (d ++ (own t c ∷ [])))
      → sets sheet (n * 2) (sheet_of l) ≡ sets sheet₀ (first * 2) (sheet_own level (d ++ (own t (c ++ l) ∷ [])))
  sheet_body first sheet₀ sheet d t c l n h e =
      let i = first * 2 in
      let D = sheet_own level d in
      let W = words_at level t in
      ap (λ (x : List ℕ). sets x (n * 2) (sheet_of l)) e
      ∙ sets_behind (sheet_own level (d ++ (own t c ∷ []))) (sheet_of l) sheet₀ i (n * 2) (omega (arith, h, own_length (d ++ (own t c ∷ []))))
      ∙ ap (sets sheet₀ i)
      (ap (λ (x : List ℕ). x ++ sheet_of l) (sheet_snoc d t c) ∙ append_assoc D (W ++ sheet_of c) (sheet_of l)
      ∙ ap (λ (x : List ℕ). D ++ (W ++ x)) (sym (sheet_append c l)) ∙ sym (sheet_snoc d t (c ++ l)))

  -- all of a body's words, its own tokens' owners being known
  pub sheet_entries : (words : List ℕ) (d : List Own) → length words ≡ length d → sheet_of (entries_of level words d) ≡ sheet_own level d
  sheet_entries words [] h = refl
  sheet_entries [] (o ∷ d) h = absurd (omega arith)
  sheet_entries (w ∷ words) (o ∷ d) h =
      let e : length words ≡ length d = omega arith in
      ap (λ (l : List ℕ). words_at level o.token ++ l)
      (sheet_append o.within (entries_of level words d) ∙ ap (λ (l : List ℕ). sheet_of o.within ++ l) (sheet_entries words d e))

  pub entries_length : (words : List ℕ) (d : List Own) → length words ≡ length d → length (entries_of level words d) ≡ count_in d
  entries_length words [] h = refl
  entries_length [] (o ∷ d) h = absurd (omega arith)
  entries_length (w ∷ words) (o ∷ d) h =
      omega (arith, length-append o.within (entries_of level words d), entries_length words d (omega arith))

  -- the table
  below : (d : List Own) (n j a : ℕ) (t : List ℕ) → j < n → set (table_own n d t) j a ≡ table_own n d (set t j a)
  below [] n j a t h = refl
  below (o ∷ d) n j a t h =
      below d (suc n + length o.within) j a (sets t (suc n) (owners_of o.within)) (omega arith)
      ∙ ap (table_own (suc n + length o.within) d) (set_before (owners_of o.within) t (suc n) j a (omega arith))

  pub table_entries : (words : List ℕ) (d : List Own) (n : ℕ) (t : List ℕ) → length words ≡ length d
      → set_at (numbers_of n d) words (table_own n d t) ≡ sets t n (owners_of (entries_of level words d))
  table_entries words [] n t h = refl
  table_entries [] (o ∷ d) n t h = absurd (omega arith)
  table_entries (w ∷ words) (o ∷ d) n t h =
      let m = suc n + length o.within in
      let O = owners_of o.within in
      let e : length words ≡ length d = omega arith in
      let k : m ≡ n + length (w ∷ O) = omega (arith, length-map o.within (λ (e : Entry). e.word)) in
      ap (set_at (numbers_of m d) words) (below d m n w (sets t (suc n) O) (omega arith) ∙ ap (table_own m d) (set_before O t (suc n) n w (omega arith)))
      ∙ table_entries words d m (sets t n (w ∷ O)) e
      ∙ sets_behind (w ∷ O) (owners_of (entries_of level words d)) t n m k
      ∙ ap (λ (l : List ℕ). sets t n (w ∷ l)) (sym (owners_append o.within (entries_of level words d)))

pub table_snoc : (d : List Own) (n : ℕ) (u : Token) (c : List Entry) (t : List ℕ)
    → table_own n (d ++ (own u c ∷ [])) t ≡ sets (table_own n d t) (suc (n + count_in d)) (owners_of c)
table_snoc [] n u c t = ap (λ (k : ℕ). sets t (suc k) (owners_of c)) (sym (add-zero n))
table_snoc (o ∷ d) n u c t =
    let e : suc (suc n + length o.within + count_in d) ≡ suc (n + count_in (o ∷ d)) = omega arith in
    table_snoc d (suc n + length o.within) u c (sets t (suc n) (owners_of o.within))
    ∙ ap (λ (k : ℕ). sets (table_own n (o ∷ d) t) k (owners_of c)) e

pub table_token : (first : ℕ) (table₀ table : List ℕ) (d : List Own) (t : Token) → table ≡ table_own first d table₀
    → table ≡ table_own first (d ++ (own t [] ∷ [])) table₀
table_token first table₀ table d t e = e ∙ sym (table_snoc d first t [] table₀)

pub table_ended : (first : ℕ) (table₀ table : List ℕ) (d : List Own) (t u : Token) (c : List Entry) → table ≡ table_own first (d ++ (own t c ∷ [])) table₀
    → table ≡ table_own first (d ++ (own u c ∷ [])) table₀
table_ended first table₀ table d t u c e = e ∙ table_snoc d first t c table₀ ∙ sym (table_snoc d first u c table₀)

pub table_body : (first : ℕ) (table₀ table : List ℕ) (d : List Own) (t : Token) (c l : List Entry) (n : ℕ)
    → n ≡ first + count_in (d ++ (own t c ∷ [])) → table ≡ table_own first (d ++ (own t c ∷ [])) table₀
    → sets table n (owners_of l) ≡ table_own first (d ++ (own t (c ++ l) ∷ [])) table₀
table_body first table₀ table d t c l n h e =
    let i = suc (first + count_in d) in
    let j : n ≡ i + length (owners_of c) = omega (arith, h, count_snoc d t c, length-map c (λ (e : Entry). e.word)) in
    ap (λ (x : List ℕ). sets x n (owners_of l)) (e ∙ table_snoc d first t c table₀)
    ∙ sets_behind (owners_of c) (owners_of l) (table_own first d table₀) i n j ∙ ap (sets (table_own first d table₀) i) (sym (owners_append c l))
    ∙ sym (table_snoc d first t (c ++ l) table₀)
