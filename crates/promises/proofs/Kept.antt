-- Kept sheets: accepted exactly where they are the stream's, refused at the first word that is not, and moved there and back to equal
-- words. Assumes nothing.
use mathlib.Core.Path.{◌≡◌, refl, sym, ap, subst, ◌∙◌}
use mathlib.Core.Bool.{Bool, true, false}
use mathlib.Core.List.{List, [], ◌∷◌, ◌++◌}
use Prim.Native.Nat.{ℕ, suc, ◌+◌, ◌*◌, ◌≤◌}
use native.Mathlib.Omega.{arith}
use borrow.Author.Tests.{eqb-true, eqb-false, leb-true, le-leb}
use lib.Dec.{eqb, leb}
use lib.ListN.{length, take, drop, length-map}
use lib.Seq.{take_at}
use Rattle.cursor.specs.Answer.{Result, gives, refuses, Maybe, just, nothing, pick}
use Rattle.cursor.specs.Lent.{laid, lent_answer, lent_left}
use Rattle.cursor.specs.Refusals.{no_room_number, wrong_sheet}
use Rattle.tokens.specs.Walk.{Walked, ok, bad}
use Rattle.tokens.specs.declared.Token.{Token}
use Rattle.sheet.specs.Sheet.{word_of, words_of, words_per_token}
use Rattle.sheet.specs.Kept.{old_words_of, one_later, differs_at, unless, counted_in, kept_answer, kept_words}
use Rattle.sheet.proofs.Keeping.{only_equal, equal_accepted}
use Rattle.sheet.proofs.Laying.{words_length}
use Rattle.promises.specs.Kept.{FirstWrong, OnlyItsSheet, Back}

-- where a word differs, those before it do not
later_is : (d : Maybe ℕ) (p : ℕ) → one_later d ≡ just p → (q : ℕ) × ((d ≡ just q) × (p ≡ suc q))
later_is (just q) p e = (q, (refl, cc))
later_is nothing p e = let z : ◌≡◌ {A = ℕ} 0 1 = cc in absurd (omega arith)

wrong_step : (b : Bool) (r g : ℕ) (right kept : List ℕ) → eqb r g ≡ b → ((p : ℕ) → differs_at right kept ≡ just p → FirstWrong right kept p) → (p : ℕ)
    → pick b (one_later (differs_at right kept)) (just 0) ≡ just p → FirstWrong (r ∷ right) (g ∷ kept) p
wrong_step true r g right kept e h p d =
    let y = later_is (differs_at right kept) p d in
    let f = h y.0 y.1.0 in
    let q : g ≡ r = sym (eqb-true r g e) in
    subst (FirstWrong (r ∷ right) (g ∷ kept)) (sym y.1.1)
    (ap (λ (x : ℕ). x ∷ take y.0 kept) q ∙ ap (λ (l : List ℕ). r ∷ l) f.0, λ z. f.1 (tails z))
  where
    tails : {x y : ℕ} {a b : List ℕ} → ◌≡◌ {A = List ℕ} (x ∷ a) (y ∷ b) → a ≡ b
    tails z = cc
wrong_step false r g right kept e h p d =
    let z : p ≡ 0 = cc in
    subst (FirstWrong (r ∷ right) (g ∷ kept)) (sym z) (refl, λ w. eqb-false r g e (heads w))
  where
    heads : {x y : ℕ} {a b : List ℕ} → ◌≡◌ {A = List ℕ} (x ∷ a) (y ∷ b) → y ≡ x
    heads w = cc

pub differs_first : (right kept : List ℕ) (p : ℕ) → differs_at right kept ≡ just p → FirstWrong right kept p
differs_first [] [] p e = let z : ◌≡◌ {A = ℕ} 0 1 = cc in absurd (omega arith)
differs_first [] (g ∷ kept) p e =
    let z : p ≡ 0 = cc in
    subst (FirstWrong [] (g ∷ kept)) (sym z) (refl, λ w. filled_none w)
  where
    filled_none : {x : ℕ} {a : List ℕ} → ◌≡◌ {A = List ℕ} (x ∷ a) [] → ⊥
    filled_none w = let z : ◌≡◌ {A = ℕ} 0 1 = cc in absurd (omega arith)
differs_first (r ∷ right) [] p e =
    let z : p ≡ 0 = cc in
    subst (FirstWrong (r ∷ right) []) (sym z) (refl, λ w. none_filled w)
  where
    none_filled : {x : ℕ} {a : List ℕ} → ◌≡◌ {A = List ℕ} [] (x ∷ a) → ⊥
    none_filled w = let z : ◌≡◌ {A = ℕ} 0 1 = cc in absurd (omega arith)
differs_first (r ∷ right) (g ∷ kept) p e = wrong_step (eqb r g) r g right kept refl (differs_first right kept) p e

-- a word that differs stands no later than behind the right ones
short_step : (b : Bool) (d : Maybe ℕ) (n : ℕ) → ((p : ℕ) → d ≡ just p → p ≤ n) → (p : ℕ) → pick b (one_later d) (just 0) ≡ just p → p ≤ suc n
short_step true d n h p e =
    let y = later_is d p e in
    omega (arith, h y.0 y.1.0, y.1.1)
short_step false d n h p e =
    let z : p ≡ 0 = cc in
    omega (arith, z)

pub differs_short : (right kept : List ℕ) (p : ℕ) → differs_at right kept ≡ just p → p ≤ length right
differs_short [] [] p e = let z : ◌≡◌ {A = ℕ} 0 1 = cc in absurd (omega arith)
differs_short [] (g ∷ kept) p e =
    let z : p ≡ 0 = cc in
    omega (arith, z)
differs_short (r ∷ right) [] p e =
    let z : p ≡ 0 = cc in
    omega (arith, z)
differs_short (r ∷ right) (g ∷ kept) p e = short_step (eqb r g) (differs_at right kept) (length right) (differs_short right kept) p e

-- what an answer says of the words that were given, by whether one of them differs
given_on : (l : List Token) (d : Maybe ℕ) (words lent : List ℕ) (n : ℕ) → counted_in (ok l) (lent_answer (unless d words) lent) ≡ gives n
    → (d ≡ nothing) × (length l ≡ n) × (leb (length words) (length lent) ≡ true)
given_on l nothing words lent n e = let y = room_on (leb (length words) (length lent)) refl e in (refl, y.0, y.1)
  where
    room_on : (b : Bool) → leb (length words) (length lent) ≡ b → counted_in (ok l) (pick b (gives (length words)) (refuses no_room_number (length words))) ≡ gives n
        → (length l ≡ n) × (leb (length words) (length lent) ≡ true)
    room_on true r q = (cc, r)
    room_on false r q = let z : ◌≡◌ {A = ℕ} 0 1 = cc in absurd (omega arith)
given_on l (just p) words lent n e = let z : ◌≡◌ {A = ℕ} 0 1 = cc in absurd (omega arith)

wrong_on : (l : List Token) (d : Maybe ℕ) (words lent : List ℕ) (p : ℕ) → counted_in (ok l) (lent_answer (unless d words) lent) ≡ refuses wrong_sheet p → d ≡ just p
wrong_on l nothing words lent p e = room_on (leb (length words) (length lent)) e
  where
    room_on : (b : Bool) → counted_in (ok l) (pick b (gives (length words)) (refuses no_room_number (length words))) ≡ refuses wrong_sheet p → nothing ≡ just p
    room_on true q = let z : ◌≡◌ {A = ℕ} 0 1 = cc in absurd (omega arith)
    room_on false q = let z : no_room_number ≡ wrong_sheet = cc in absurd (omega (arith, z))
wrong_on l (just m) words lent p e = cc

module _ (from to : List Token → List ℕ) where
  -- accepted only where it is the stream's
  pub only_its_sheet : (w : Walked) (kept lent : List ℕ) (n : ℕ) → kept_answer from to w kept lent ≡ gives n → OnlyItsSheet from to w kept lent n
  only_its_sheet (ok l) kept lent n e =
      let y = given_on l (differs_at (from l) kept) (to l) lent n e in
      record {
        tokens = l;
        walked = refl;
        count = y.1;
        equal = only_equal (from l) kept y.0;
        room = leb-true _ _ y.2;
        left = ap (λ (d : Maybe ℕ). lent_left (unless d (to l)) lent) y.0 ∙ ap (λ (b : Bool). pick b (laid (to l) lent) lent) y.2;
      }
  only_its_sheet (bad k p) kept lent n e = let z : ◌≡◌ {A = ℕ} 0 1 = cc in absurd (omega arith)

  -- and wherever it is, and there is room
  pub always : (l : List Token) (lent : List ℕ) → length (to l) ≤ length lent
      → (kept_answer from to (ok l) (from l) lent ≡ gives (length l)) × (kept_words from to (ok l) (from l) lent ≡ laid (to l) lent)
  always l lent h =
      let b = le-leb (length (to l)) (length lent) h in (
        ap (λ (d : Maybe ℕ). counted_in (ok l) (lent_answer (unless d (to l)) lent)) (equal_accepted (from l))
            ∙ ap (λ (t : Bool). counted_in (ok l) (pick t (gives (length (to l))) (refuses no_room_number (length (to l))))) b,
        ap (λ (d : Maybe ℕ). lent_left (unless d (to l)) lent) (equal_accepted (from l)) ∙ ap (λ (t : Bool). pick t (laid (to l) lent) lent) b,
      )

  -- 19 is at the first word that is not the stream's
  pub first_wrong : (l : List Token) (kept lent : List ℕ) (p : ℕ) → kept_answer from to (ok l) kept lent ≡ refuses wrong_sheet p → FirstWrong (from l) kept p
  first_wrong l kept lent p e = differs_first (from l) kept p (wrong_on l (differs_at (from l) kept) (to l) lent p e)

-- there and back, where n tokens have `size n` words in the second form
pub back : (from to : List Token → List ℕ) (size : ℕ → ℕ) → ((l : List Token) → length (to l) ≡ size (length l)) → (w : Walked) (kept lent other : List ℕ) (n : ℕ)
    → kept_answer from to w kept lent ≡ gives n → length kept ≤ length other → Back from to (size n) w kept lent other n
back from to size sized w kept lent other n e room =
    let y = only_its_sheet from to w kept lent n e in
    let l = y.tokens in
    let made = take (size n) (kept_words from to w kept lent) in
    let m : made ≡ to l = ap (take (size n)) y.left ∙ take_at (to l) (drop (length (to l)) lent) (size n) (sized l ∙ ap size y.count) in
    let k : length (from l) ≤ length other = omega (arith, room, ap length y.equal) in
    let a = always to from l other k in (
      ap (λ (v : Walked). kept_answer to from v made other) y.walked ∙ ap (λ (x : List ℕ). kept_answer to from (ok l) x other) m ∙ a.0
          ∙ ap (λ (c : ℕ). gives c) y.count,
      ap (take (length kept))
          (ap (λ (v : Walked). kept_words to from v made other) y.walked ∙ ap (λ (x : List ℕ). kept_words to from (ok l) x other) m ∙ a.1)
          ∙ take_at (from l) (drop (length (from l)) other) (length kept) (ap length (sym y.equal)) ∙ sym y.equal,
    )

-- widen and narrow
pub old_new_old : (w : Walked) (old lent other : List ℕ) (n : ℕ) → kept_answer old_words_of words_of w old lent ≡ gives n → length old ≤ length other
    → Back old_words_of words_of (n * words_per_token) w old lent other n
old_new_old = back old_words_of words_of (λ n. n * words_per_token) words_length

pub new_old_new : (w : Walked) (sheet lent other : List ℕ) (n : ℕ) → kept_answer words_of old_words_of w sheet lent ≡ gives n → length sheet ≤ length other
    → Back words_of old_words_of n w sheet lent other n
new_old_new = back words_of old_words_of (λ n. n) (λ l. length-map l word_of)
