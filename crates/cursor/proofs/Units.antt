-- Units of two bytes, and the first zero among them. Assumes nothing.
use mathlib.Core.Path.{◌≡◌, refl, sym, ap, ◌∙◌}
use mathlib.Core.List.{List, [], ◌∷◌}
use Prim.Native.Nat.{ℕ, zero, suc, ◌+◌, ◌-◌, ◌*◌, ◌/◌, ◌≤◌, ◌<◌}
use native.Mathlib.Numerals.{add-one}
use native.Mathlib.Omega.{arith}
use borrow.Author.Tests.{eq-eqb, ne_eqb, lt-ltb, le-ltb}
use lib.ListN.{length, take, drop, get_or, length-drop, drop_of_length-le, get_or-eq_default}
use lib.Seq.{drop-cons, take_all}
use lib.Dec.{eqb}
use Rattle.cursor.specs.Reads.{little, bytes_of}
use Rattle.cursor.proofs.Choice.{either}
use Rattle.cursor.specs.Answer.{given, refused}
use Rattle.cursor.specs.Text.{units_of, before_zero, view_of, zero_ended_at}
use Rattle.cursor.specs.declared.View.{View}

-- two bytes make a unit
pub units_length : (t : List ℕ) → length (units_of t) ≡ length t / 2
unfolding units_of
units_length [] = refl
units_length (a ∷ []) = refl
units_length (a ∷ (b ∷ t)) = omega (arith, units_length t)

-- the unit n is the number of its two bytes
pub unit_is : (t : List ℕ) (n : ℕ) → n < length t / 2 → get_or (units_of t) n 0 ≡ little (bytes_of t (2 * n) 2)
unfolding units_of little
unit_is [] n h = absurd (omega arith)
unit_is (a ∷ []) n h = absurd (omega arith)
unit_is (a ∷ (b ∷ t)) zero h = omega arith
unit_is (a ∷ (b ∷ t)) (suc n) h =
    let e : 2 * suc n ≡ suc (suc (2 * n)) = omega arith in
    unit_is t n (omega arith) ∙ ap (λ (m : ℕ). little (bytes_of (a ∷ (b ∷ t)) m 2)) (sym e)

-- past the end there is no unit
pub no_unit : (t : List ℕ) (n : ℕ) → length t / 2 ≤ n → get_or (units_of t) n 0 ≡ 0
no_unit t n h = get_or-eq_default (units_of t) 0 {n = n} (omega (arith, units_length t))

-- the first units are those of the first bytes
pub units_front : (t : List ℕ) (n : ℕ) → units_of (take (2 * n) t) ≡ take n (units_of t)
unfolding units_of
units_front t zero = refl
units_front [] (suc n) =
    let e : 2 * suc n ≡ suc (suc (2 * n)) = omega arith in
    ap (λ (m : ℕ). units_of (take m [])) e
units_front (a ∷ []) (suc n) =
    let e : 2 * suc n ≡ suc (suc (2 * n)) = omega arith in
    ap (λ (m : ℕ). units_of (take m (a ∷ []))) e
units_front (a ∷ (b ∷ t)) (suc n) =
    let e : 2 * suc n ≡ suc (suc (2 * n)) = omega arith in
    ap (λ (m : ℕ). units_of (take m (a ∷ (b ∷ t)))) e ∙ ap (λ (r : List ℕ). (a + 256 * b) ∷ r) (units_front t n)

-- at the unit n: the first zero is here, later, or nowhere
module _ (us : List ℕ) (n : ℕ) where
  pub zero_here : n < length us → get_or us n 0 ≡ 0 → before_zero (drop n us) ≡ 0
  unfolding before_zero
  zero_here h z = rw (drop-cons us n 0 h, eq-eqb _ _ z)

  pub zero_later : n < length us → (get_or us n 0 ≡ 0 → ⊥) → before_zero (drop n us) ≡ before_zero (drop (n + 1) us) + 1
  unfolding before_zero
  zero_later h z = rw (drop-cons us n 0 h, add-one n, ne_eqb _ _ z)

  pub zero_nowhere : length us ≤ n → before_zero (drop n us) ≡ 0
  unfolding before_zero
  zero_nowhere h = rw (drop_of_length-le us h)

pub before_length : (us : List ℕ) → before_zero us ≤ length us
unfolding before_zero
before_length [] = omega arith
before_length (u ∷ us) =
    either (λ (m : ℕ). m ≤ suc (length us)) (eqb u 0) 0 (before_zero us + 1) (λ e. omega arith) (λ e. omega (arith, before_length us))

-- the units before the first zero lie within their text
-- a part that goes to the end
pub tail : (s : List ℕ) (at : ℕ) → take (length s - at) (drop at s) ≡ drop at s
tail s at = take_all (length s - at) (drop at s) (simp length-drop (omega arith))

-- the view of what stands from a position on: a zero unit is there, or the last unit is cut
module _ (s : List ℕ) (at : ℕ) (v : View) (e : v ≡ view_of at (units_of (drop at s))) where
  count : length (units_of (drop at s)) ≡ (length s - at) / 2
  count = units_length (drop at s) ∙ ap (λ (k : ℕ). k / 2) (length-drop at s)

  shown : v.part.len ≡ 2 * before_zero (units_of (drop at s))
  shown = ap (λ (x : View). x.part.len) e

  pub shown_within : v.part.len ≤ length s - at
  shown_within = omega (arith, count, shown, before_length (units_of (drop at s)))

  pub zero_read : v.part.len + 2 ≤ length s - at → given v (at + v.part.len + 2) ≡ zero_ended_at s at
  zero_read h =
      let l : before_zero (units_of (drop at s)) < length (units_of (drop at s)) = omega (arith, count, shown) in
      simp (e, lt-ltb _ _ l)

  pub zero_cut : length s - at < v.part.len + 2 → refused 3 (at + v.part.len) ≡ zero_ended_at s at
  zero_cut h =
      let l : length (units_of (drop at s)) ≤ before_zero (units_of (drop at s)) = omega (arith, count, shown) in
      let k : v.part.len ≡ 2 * length (units_of (drop at s)) = omega (arith, shown, before_length (units_of (drop at s))) in
      simp (le-ltb _ _ l, k)
