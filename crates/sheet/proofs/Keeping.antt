-- A kept sheet beside the words of a walk's tokens. Assumes nothing.
use mathlib.Core.Path.{◌≡◌, refl, sym, ap, subst, ◌∙◌}
use mathlib.Core.Bool.{Bool, true, false}
use mathlib.Core.List.{List, [], ◌∷◌, ◌++◌}
use Prim.Native.Nat.{ℕ, suc, ◌+◌, ◌*◌, ◌≤◌, ◌<◌}
use native.Mathlib.Nat.{zero-mul, one-mul, add-mul}
use native.Mathlib.Omega.{arith}
use native.Mathlib.Decide.{dec_lt}
use borrow.Author.Tests.{eqb-true, eqb-false, eq-eqb}
use lib.Dec.{eqb, leb}
use lib.ListN.{length, drop, length-append}
use lib.Seq.{drop-drop}
use Rattle.cursor.specs.Answer.{given, Result, gives, refuses, Maybe, just, nothing, pick}
use Rattle.cursor.specs.Lent.{lent_answer, lent_left}
use Rattle.cursor.specs.Refusals.{no_room_number, wrong_sheet}
use Rattle.cursor.proofs.Choice.{either}
use Rattle.tokens.specs.Walk.{handed, Walked, ok, bad, step_at, walk_at, counted_of}
use Rattle.tokens.specs.declared.Flags.{Flags}
use Rattle.tokens.specs.declared.Token.{Token}
use Rattle.sheet.specs.Sheet.{without_bit, first_word_of, second_word_of, read_at, words_of, sheet_answer, sheet_words}
use Rattle.sheet.specs.Kept.{in_form, one_later, differs_at, unless, counted_in, beside_answer, kept_answer, kept_words}
use Rattle.sheet.specs.Noted.{one_in_form, two_in_form, form_width, agreeing, RightSoFar, ended_with}
use Rattle.sheet.specs.declared.Form.{Form}
use Rattle.sheet.specs.declared.Form.TheVariants as F
use Rattle.sheet.proofs.Noting.{Numbers, read_token}
use Rattle.sheet.proofs.Laying.{all_read}
use Rattle.sheet.proofs.OldWord.{old_word}

short_picked : (b : Bool) (k n : ℕ) → k ≤ n → pick b (suc k) 0 ≤ suc n
short_picked true k n h = omega arith
short_picked false k n h = omega arith

pub agreeing_short : (a l : List ℕ) → agreeing a l ≤ length a
agreeing_short [] l = omega arith
agreeing_short (x ∷ a) [] = omega arith
agreeing_short (x ∷ a) (y ∷ l) = short_picked (eqb x y) (agreeing a l) (length a) (agreeing_short a l)

-- words before others: where all of them agree the others count too, and else they alone
all_picked : (b : Bool) (k j n m : ℕ) → pick b (suc k) 0 ≡ suc n → (k ≡ n → j ≡ n + m) → pick b (suc j) 0 ≡ suc n + m
all_picked true k j n m e h = omega (arith, h (omega arith))
all_picked false k j n m e h = absurd (omega arith)

pub agreeing_all : (a b l : List ℕ) → agreeing a l ≡ length a → agreeing (a ++ b) l ≡ length a + agreeing b (drop (length a) l)
agreeing_all [] b l e = omega arith
agreeing_all (x ∷ a) b [] e = absurd (omega arith)
agreeing_all (x ∷ a) b (y ∷ l) e =
    all_picked (eqb x y) (agreeing a l) (agreeing (a ++ b) l) (length a) (agreeing b (drop (length a) l)) e (agreeing_all a b l)

some_picked : (b : Bool) (k j n : ℕ) → pick b (suc k) 0 < suc n → (k < n → j ≡ k) → pick b (suc j) 0 ≡ pick b (suc k) 0
some_picked true k j n e h = omega (arith, h (omega arith))
some_picked false k j n e h = refl

pub agreeing_some : (a b l : List ℕ) → agreeing a l < length a → agreeing (a ++ b) l ≡ agreeing a l
agreeing_some [] b l h = absurd (omega arith)
agreeing_some (x ∷ a) b [] h = refl
agreeing_some (x ∷ a) b (y ∷ l) h =
    some_picked (eqb x y) (agreeing a l) (agreeing (a ++ b) l) (length a) h (agreeing_some a b l)

-- where all of them agree and there are as many, no word differs; else the first one that does is the one after those
same_picked : (b : Bool) (k n : ℕ) (d : Maybe ℕ) → pick b (suc k) 0 ≡ suc n → (k ≡ n → d ≡ nothing) → pick b (one_later d) (just 0) ≡ nothing
same_picked true k n d e h = ap one_later (h (omega arith))
same_picked false k n d e h = absurd (omega arith)

pub right_sheet : (right kept : List ℕ) → agreeing right kept ≡ length right → length right ≡ length kept → differs_at right kept ≡ nothing
right_sheet [] [] e h = refl
right_sheet [] (g ∷ kept) e h = absurd (omega arith)
right_sheet (r ∷ right) [] e h = absurd (omega arith)
right_sheet (r ∷ right) (g ∷ kept) e h =
    let n : length right ≡ length kept = omega arith in
    same_picked (eqb r g) (agreeing right kept) (length right) (differs_at right kept) e (λ k. right_sheet right kept k n)

wrong_picked : (b : Bool) (k m n : ℕ) (d : Maybe ℕ) → (pick b (suc k) 0 ≡ suc m → suc m ≡ suc n → ⊥) → ((k ≡ m → m ≡ n → ⊥) → d ≡ just k)
    → pick b (one_later d) (just 0) ≡ just (pick b (suc k) 0)
wrong_picked true k m n d e h = ap one_later (h (λ p q. e (omega arith) (omega arith)))
wrong_picked false k m n d e h = refl

pub wrong_sheet_lem : (right kept : List ℕ) → (agreeing right kept ≡ length right → length right ≡ length kept → ⊥)
    → differs_at right kept ≡ just (agreeing right kept)
wrong_sheet_lem [] [] e = absurd (e refl refl)
wrong_sheet_lem [] (g ∷ kept) e = refl
wrong_sheet_lem (r ∷ right) [] e = refl
wrong_sheet_lem (r ∷ right) (g ∷ kept) e =
    wrong_picked (eqb r g) (agreeing right kept) (length right) (length kept) (differs_at right kept) e (wrong_sheet_lem right kept)

-- no word differs exactly where the words are equal
later_none : (d : Maybe ℕ) → one_later d ≡ nothing → d ≡ nothing
later_none (just n) e = let z : ◌≡◌ {A = ℕ} 0 1 = cc in absurd (omega arith)
later_none nothing e = refl

equal_picked : (b : Bool) (r g : ℕ) (right kept : List ℕ) → eqb r g ≡ b → pick b (one_later (differs_at right kept)) (just 0) ≡ nothing
    → (differs_at right kept ≡ nothing → kept ≡ right) → ◌≡◌ {A = List ℕ} (g ∷ kept) (r ∷ right)
equal_picked true r g right kept e d h =
    ap (λ (x : ℕ). x ∷ kept) (sym (eqb-true r g e)) ∙ ap (λ (l : List ℕ). r ∷ l) (h (later_none (differs_at right kept) d))
equal_picked false r g right kept e d h = let z : ◌≡◌ {A = ℕ} 0 1 = cc in absurd (omega arith)

pub only_equal : (right kept : List ℕ) → differs_at right kept ≡ nothing → kept ≡ right
only_equal [] [] e = refl
only_equal [] (g ∷ kept) e = let z : ◌≡◌ {A = ℕ} 0 1 = cc in absurd (omega arith)
only_equal (r ∷ right) [] e = let z : ◌≡◌ {A = ℕ} 0 1 = cc in absurd (omega arith)
only_equal (r ∷ right) (g ∷ kept) e = equal_picked (eqb r g) r g right kept refl e (only_equal right kept)

pub equal_accepted : (l : List ℕ) → differs_at l l ≡ nothing
equal_accepted [] = refl
equal_accepted (x ∷ l) = rw (eq-eqb x x refl) (ap one_later (equal_accepted l))

-- two words, one behind the other
pub two_some : (kept : List ℕ) (at x y first : ℕ) → first ≡ at + agreeing (x ∷ []) (drop at kept) → (first ≡ at → ⊥)
    → first + agreeing (y ∷ []) (drop first kept) ≡ at + agreeing (x ∷ y ∷ []) (drop at kept)
two_some kept at x y first e n =
    let s = agreeing_short (x ∷ []) (drop at kept) in
    let k : agreeing (x ∷ []) (drop at kept) ≡ length (x ∷ []) =
    elim (dec_lt (agreeing (x ∷ []) (drop at kept)) 1) [
      | yes l ↦ absurd (n (omega (arith, e, l)))
      | no l ↦ omega (arith, s, l)
    ] in
    let i : at + 1 ≡ first = omega (arith, e, k) in
    let d : drop 1 (drop at kept) ≡ drop first kept = drop-drop 1 at kept ∙ ap (λ (j : ℕ). drop j kept) i in
    omega (arith, e, k, agreeing_all (x ∷ []) (y ∷ []) (drop at kept) k, ap (agreeing (y ∷ [])) d)

-- a token's words in a form are those of its two words
pub two_in_form_lem : (form : Form) (t : Token) (first second : ℕ) → first ≡ first_word_of t → second ≡ second_word_of t → two_in_form form first second ≡ one_in_form form t
two_in_form_lem F.Nothing t first second e g = refl
two_in_form_lem F.Old t first second e g = ap (λ (x : ℕ). x ∷ []) (ap without_bit e ∙ old_word t)
two_in_form_lem F.New t first second e g = ap (λ (x : ℕ). x ∷ second ∷ []) e ∙ ap (λ (y : ℕ). first_word_of t ∷ y ∷ []) g

-- a given sheet's words, by its form
pub form_none : (form : Form) → in_form form [] ≡ []
form_none F.Nothing = refl
form_none F.Old = refl
form_none F.New = refl

pub form_more : (form : Form) (t : Token) (l : List Token) → in_form form (t ∷ l) ≡ one_in_form form t ++ in_form form l
form_more F.Nothing t l = refl
form_more F.Old t l = refl
form_more F.New t l = refl

pub form_wide : (form : Form) (t : Token) → length (one_in_form form t) ≡ form_width form
form_wide F.Nothing t = refl
form_wide F.Old t = refl
form_wide F.New t = refl

abbrev pub formed : Form → Numbers
formed form =
    record { each = in_form form; one = one_in_form form; width = form_width form; none = form_none form; more = form_more form; wide = form_wide form }

-- the words of one token more
pub one_more : (n width : ℕ) → (n + 1) * width ≡ n * width + width
one_more n width = add-mul n 1 width ∙ ap (λ (k : ℕ). n * width + k) (one-mul width)

pub each_length : (g : Numbers) (l : List Token) → length (g.each l) ≡ length l * g.width
each_length g [] = ap length g.none ∙ sym (zero-mul g.width)
each_length g (t ∷ l) =
    let e : suc (length l) ≡ length l + 1 = omega arith in
    ap length (g.more t l) ∙ length-append (g.one t) (g.each l) ∙ ap (λ (k : ℕ). length (g.one t) + k) (each_length g l)
    ∙ ap (λ (k : ℕ). k + length l * g.width) (g.wide t) ∙ turned g.width (length l * g.width)
    ∙ sym (ap (λ (k : ℕ). k * g.width) e ∙ one_more (length l) g.width)
  where
    turned : (a b : ℕ) → a + b ≡ b + a
    turned a b = omega arith

-- How many words of a kept sheet are right when the walk stands at `at`, the tokens so far having `all` words.
module _ (s : List ℕ) (end : ℕ) (f : Flags) (g : Numbers) (start : ℕ) (kept : List ℕ) where
  pub record Along (at all same : ℕ) : Type 0 where
    pub short : same ≤ all
    pub right : same ≡ all → agreeing (g.each (read_at s end f start)) kept ≡ same + agreeing (g.each (read_at s end f at)) (drop same kept)
    pub wrong : same < all → agreeing (g.each (read_at s end f start)) kept ≡ same

  pub along_start : (all : ℕ) → all ≡ 0 → Along start all 0
  along_start all e = record { short = omega arith; right = λ h. omega arith; wrong = λ h. absurd (omega (arith, e)) }

  pub along_next : (at all more same : ℕ) → Along at all same → (t : Token) (m : ℕ) → step_at s end f at ≡ given (handed t) m
      → (next : ℕ) → RightSoFar all (g.one t) kept same next → more ≡ all + g.width → Along m more next
  along_next at all more same y t m e next h w =
      elim (dec_lt same all) [
        | yes l ↦
            let q : next ≡ same = h.1 l in
            record {
              short = omega (arith, q, w, l);
              right = λ p. absurd (omega (arith, q, w, l, p));
              wrong = λ p. y.wrong l ∙ sym q;
            }
        | no l ↦
            let p : same ≡ all = omega (arith, l, y.short) in
            let q : next ≡ same + agreeing (g.one t) (drop same kept) = h.0 p in
            let r = y.right p in
            let rest = g.each (read_at s end f m) in
            let c : g.each (read_at s end f at) ≡ g.one t ++ rest = ap g.each (read_token s end f at m t e) ∙ g.more t (read_at s end f m) in
            let d : agreeing (g.each (read_at s end f at)) (drop same kept) ≡ agreeing (g.one t ++ rest) (drop same kept) =
            ap (λ (x : List ℕ). agreeing x (drop same kept)) c in
            let b = agreeing_short (g.one t) (drop same kept) in
            record {
              short = omega (arith, q, p, w, b, g.wide t);
              right =
                  λ z.
                  let k : agreeing (g.one t) (drop same kept) ≡ length (g.one t) = omega (arith, q, p, w, z, g.wide t) in
                  let i : same + length (g.one t) ≡ next = omega (arith, q, k) in
                  let j : drop (length (g.one t)) (drop same kept) ≡ drop next kept =
                  drop-drop (length (g.one t)) same kept ∙ ap (λ (x : ℕ). drop x kept) i in
                  omega (arith, r, d, k, q, agreeing_all (g.one t) rest (drop same kept) k, ap (agreeing rest) j);
              wrong =
                  λ z.
                  let k : agreeing (g.one t) (drop same kept) < length (g.one t) = omega (arith, q, p, w, z, g.wide t) in
                  omega (arith, r, d, q, agreeing_some (g.one t) rest (drop same kept) k);
            }
      ]

  -- the walk hands on nothing more
  pub along_over : (at all same : ℕ) → Along at all same → read_at s end f at ≡ [] → agreeing (g.each (read_at s end f start)) kept ≡ same
  along_over at all same y e =
      elim (dec_lt same all) [
        | yes l ↦ y.wrong l
        | no l ↦
            let p : same ≡ all = omega (arith, l, y.short) in
            let z : agreeing (g.each (read_at s end f at)) (drop same kept) ≡ 0 =
            ap (λ (x : List Token). agreeing (g.each x) (drop same kept)) e ∙ ap (λ (x : List ℕ). agreeing x (drop same kept)) g.none in
            omega (arith, y.right p, z)
      ]

-- the answer at the end of a walk, from how many words are right
ended_is : (right kept : List ℕ) (all n same : ℕ) → agreeing right kept ≡ same → length right ≡ all
    → ended_with (length kept) all n same ≡ unless (differs_at right kept) n
ended_is right kept all n same a h =
    let P : Result ℕ → Type 0 = λ r. r ≡ unless (differs_at right kept) n in
    either P (eqb same (length kept)) _ _
    (λ x. either P (eqb same all) _ _
    (λ y.
    let p : agreeing right kept ≡ length right = a ∙ eqb-true same all y ∙ sym h in
    let q : length right ≡ length kept = h ∙ sym (eqb-true same all y) ∙ eqb-true same (length kept) x in
    ap (λ (d : Maybe ℕ). unless d n) (sym (right_sheet right kept p q)))
    (λ y. refused_by (λ p q. eqb-false same all y (sym a ∙ p ∙ h))))
    (λ x. refused_by (λ p q. eqb-false same (length kept) x (sym a ∙ p ∙ q)))
  where
    refused_by : (agreeing right kept ≡ length right → length right ≡ length kept → ⊥) → refuses wrong_sheet same ≡ unless (differs_at right kept) n
    refused_by e =
        ap (λ (d : Maybe ℕ). unless d n) (sym (wrong_sheet_lem right kept e ∙ ap (λ (k : ℕ). just k) a))

-- a walk of n tokens, beside a given sheet
pub beside_ended : (s : List ℕ) (end : ℕ) (f : Flags) (start n : ℕ) → counted_of (walk_at s end f start) ≡ gives n → (form : Form) (kept : List ℕ) (same : ℕ)
    → agreeing (in_form form (read_at s end f start)) kept ≡ same
    → ended_with (length kept) (n * form_width form) n same ≡ beside_answer (in_form form) (walk_at s end f start) kept
beside_ended s end f start n c form kept same a =
    let y = all_read s end f start n c in
    let e : in_form form (read_at s end f start) ≡ in_form form y.0 = ap (in_form form) y.1.1 in
    let h : length (in_form form y.0) ≡ n * form_width form = each_length (formed form) y.0 ∙ ap (λ (k : ℕ). k * form_width form) y.1.2 in
    ended_is (in_form form y.0) kept (n * form_width form) n same (ap (λ (x : List ℕ). agreeing x kept) (sym e) ∙ a) h
    ∙ ap (λ (k : ℕ). unless (differs_at (in_form form y.0) kept) k) (sym y.1.2)
    ∙ ap (λ (w : Walked). beside_answer (in_form form) w kept) (sym y.1.0)

-- a walk that is refused, beside any sheet
pub beside_refused : (from : List Token → List ℕ) (w : Walked) (kept : List ℕ) (k p : ℕ) → counted_of w ≡ refuses k p → refuses k p ≡ beside_answer from w kept
beside_refused from (ok l) kept k p e = let z : ◌≡◌ {A = ℕ} 0 1 = cc in absurd (omega arith)
beside_refused from (bad m q) kept k p e = sym e

-- what the count beside a given sheet says: its tokens, whose words were given
unless_gives : {A : Type 0} (d : Maybe ℕ) (a b : A) → unless d a ≡ gives b → (d ≡ nothing) × (a ≡ b)
unless_gives nothing a b e = (refl, cc)
unless_gives (just n) a b e = let z : ◌≡◌ {A = ℕ} 0 1 = cc in absurd (omega arith)

-- the count of words told as the tokens'
told_on : (b : Bool) (l : List Token) (m : ℕ) → pick b (gives (length l)) (refuses no_room_number m) ≡ counted_in (ok l) (pick b (gives m) (refuses no_room_number m))
told_on true l m = refl
told_on false l m = refl

filled_on : (l : List Token) (d : Maybe ℕ) (lent : List ℕ) → d ≡ nothing
    → (sheet_answer (ok l) lent ≡ counted_in (ok l) (lent_answer (unless d (words_of l)) lent)) × (sheet_words (ok l) lent ≡ lent_left (unless d (words_of l)) lent)
filled_on l nothing lent e = (told_on (leb (length (words_of l)) (length lent)) l (length (words_of l)), refl)
filled_on l (just n) lent e = let z : ◌≡◌ {A = ℕ} 0 1 = cc in absurd (omega arith)

refused_on : (l : List Token) (d : Maybe ℕ) (words lent : List ℕ) (k p : ℕ) → unless d (length l) ≡ refuses k p
    → (refuses k p ≡ counted_in (ok l) (lent_answer (unless d words) lent)) × (lent ≡ lent_left (unless d words) lent)
refused_on l nothing words lent k p e = let z : ◌≡◌ {A = ℕ} 0 1 = cc in absurd (omega arith)
refused_on l (just n) words lent k p e = (sym e, refl)

module _ (from : List Token → List ℕ) where
  pub accepted : (w : Walked) (kept : List ℕ) (n : ℕ) → beside_answer from w kept ≡ gives n
      → (l : List Token) × ((w ≡ ok l) × (length l ≡ n) × (differs_at (from l) kept ≡ nothing))
  accepted (ok l) kept n e = let u = unless_gives (differs_at (from l) kept) (length l) n e in (l, (refl, u.1, u.0))
  accepted (bad k p) kept n e = let z : ◌≡◌ {A = ℕ} 0 1 = cc in absurd (omega arith)

  pub accepted_count : (w : Walked) (kept : List ℕ) (n : ℕ) → beside_answer from w kept ≡ gives n → counted_of w ≡ gives n
  accepted_count w kept n e = let y = accepted w kept n e in ap counted_of y.1.0 ∙ ap (λ (k : ℕ). gives k) y.1.1

  -- beside a sheet that is accepted the lent words are as without it
  pub kept_filled : (w : Walked) (kept lent : List ℕ) (n : ℕ) → beside_answer from w kept ≡ gives n
      → (sheet_answer w lent ≡ kept_answer from words_of w kept lent) × (sheet_words w lent ≡ kept_words from words_of w kept lent)
  kept_filled (ok l) kept lent n e = filled_on l (differs_at (from l) kept) lent (unless_gives (differs_at (from l) kept) (length l) n e).0
  kept_filled (bad k p) kept lent n e = (refl, refl)

  -- a refusal is the answer, and writes nothing
  pub kept_refused : (to : List Token → List ℕ) (w : Walked) (kept lent : List ℕ) (k p : ℕ) → beside_answer from w kept ≡ refuses k p
      → (refuses k p ≡ kept_answer from to w kept lent) × (lent ≡ kept_words from to w kept lent)
  kept_refused to (ok l) kept lent k p e = refused_on l (differs_at (from l) kept) (to l) lent k p e
  kept_refused to (bad m q) kept lent k p e = (sym e, refl)

-- what is said of a walk is said of the same walk under another name
pub kept_as : (v w : Walked) (form : Form) (kept lent left : List ℕ) (r : Result ℕ) → w ≡ v
    → (r ≡ kept_answer (in_form form) words_of w kept lent) × (left ≡ kept_words (in_form form) words_of w kept lent)
    → (r ≡ kept_answer (in_form form) words_of v kept lent) × (left ≡ kept_words (in_form form) words_of v kept lent)
kept_as v w form kept lent left r e h =
    subst (λ (x : Walked). (r ≡ kept_answer (in_form form) words_of x kept lent) × (left ≡ kept_words (in_form form) words_of x kept lent)) e h
