-- The merge's rows by each rule, and where the two rules give the same row. Assumes nothing.
use mathlib.Core.Path.{◌≡◌, refl, sym, ap, subst, ◌∙◌}
use mathlib.Core.Bool.{Bool, true, false}
use mathlib.Core.Logic.{◌⊎◌, inl, inr, ⊎_elim}
use mathlib.Core.List.{List}
use Prim.Native.Nat.{ℕ, ◌≤◌, ◌<◌}
use native.Mathlib.Omega.{arith}
use borrow.Author.Tests.{ltb-true, ltb-false}
use lib.Dec.{ltb}
use Rattle.cursor.specs.Answer.{Result, gives, refuses, pick}
use Rattle.merge.specs.Writes.{Write, IsAt, Lacks, NotLater, Newest}
use Rattle.merge.specs.Select.{RowOf, of_both, of_primary, of_other, Selects, choice_of}
use Rattle.merge.specs.declared.Rule.TheVariants as R
use Rattle.merge.proofs.Finding.{split}
use Rattle.merge.proofs.Selecting.{newest_one_only, lacks_not, selection}
use Rattle.merge.specs.Rows.{into, union, newest_of}
use Rattle.promises.specs.Merging.{RowIn, RuleOne, RuleTwo, Agree, sample_primary, sample_other, sample_one, sample_two}

-- nothing of a tag in a list has a later time than its newest
newest_time : (ws : List Write) (t : ℕ) (w : Write) → Newest ws t w → (j : ℕ) (v : Write) → IsAt ws j v → v.tag ≡ t → v.time ≤ w.time
newest_time ws t w n j v a e = ⊎_elim (λ l. omega (arith, l)) (λ l. omega (arith, l.0)) (n.latest j v a e)

module _ (p o : List Write) (t : ℕ) where
  one_row : (w : Write) → RowOf (choice_of R.Primary) p o t w → RuleOne p o t w
  one_row w (of_both x y nx ny e) = inl (subst (Newest p t) (sym e) nx)
  one_row w (of_primary nx l) = inl nx
  one_row w (of_other l ny) = inr (l, ny)

  two_row : (w : Write) → RowOf (choice_of R.Newest) p o t w → RuleTwo p o t w
  two_row w (of_both x y nx ny e) =
      split (ltb x.time y.time)
      (λ b.
      let f : y ≡ w = sym (e ∙ ap (λ (c : Bool). pick c y x) b) in
      inr (subst (λ (z : Write). Newest o t z × ((j : ℕ) (v : Write) → IsAt p j v → v.tag ≡ t → v.time < z.time)) f
      (ny, λ j v a g. omega (arith, newest_time p t x nx j v a g, ltb-true x.time y.time b))))
      (λ b.
      let f : x ≡ w = sym (e ∙ ap (λ (c : Bool). pick c y x) b) in
      inl (subst (λ (z : Write). Newest p t z × ((j : ℕ) (v : Write) → IsAt o j v → v.tag ≡ t → v.time ≤ z.time)) f
      (nx, λ j v a g. omega (arith, newest_time o t y ny j v a g, ltb-false x.time y.time b))))
  two_row w (of_primary nx l) = inl (nx, λ j v a g. absurd (l j v a g))
  two_row w (of_other l ny) = inr (ny, λ j v a g. absurd (l j v a g))

  -- the two newest agree where the primary's is at least as new
  both_agree : (x y : Write) → Newest p t x → Newest o t y → Agree p o t → y.time ≤ x.time
  both_agree x y nx ny a =
      ⊎_elim (λ l. absurd (lacks_not p t x nx l))
      (λ b. ⊎_elim (λ l. absurd (lacks_not o t y ny l))
      (λ z.
      let ex = newest_one_only p t z.0 x z.1.1.0 nx in
      let ey = newest_one_only o t z.1.0 y z.1.1.1.0 ny in
      omega (arith, z.1.1.1.1, ap (λ (w : Write). w.time) ex, ap (λ (w : Write). w.time) ey)) b) a

  same_of : (v w : Write) → RowOf (choice_of R.Primary) p o t v → RowOf (choice_of R.Newest) p o t w → (v ≡ w → Agree p o t) × (Agree p o t → v ≡ w)
  same_of v w (of_both x y nx ny e) (of_both x' y' nx' ny' e') =
      let ex : x' ≡ x = newest_one_only p t x' x nx' nx in
      let ey : y' ≡ y = newest_one_only o t y' y ny' ny in
      let f : w ≡ pick (ltb x.time y.time) y x =
      e' ∙ ap (λ (z : Write). pick (ltb z.time y'.time) y' z) ex ∙ ap (λ (z : Write). pick (ltb x.time z.time) z x) ey in
      split (ltb x.time y.time)
      (λ b.
      let l = ltb-true x.time y.time b in
      let g : w ≡ y = f ∙ ap (λ (c : Bool). pick c y x) b in
      ((λ q. absurd (omega (arith, l, ap (λ (z : Write). z.time) (sym e ∙ q ∙ g)))), (λ a. absurd (omega (arith, l, both_agree x y nx ny a)))))
      (λ b.
      let g : w ≡ x = f ∙ ap (λ (c : Bool). pick c y x) b in
      ((λ q. inr (inr (x, (y, (nx, (ny, ltb-false x.time y.time b)))))), (λ a. e ∙ sym g)))
  same_of v w (of_both x y nx ny e) (of_primary n l) = absurd (lacks_not o t y ny l)
  same_of v w (of_both x y nx ny e) (of_other l n) = absurd (lacks_not p t x nx l)
  same_of v w (of_primary n l) (of_both x y nx ny e) = absurd (lacks_not o t y ny l)
  same_of v w (of_primary n l) (of_primary m k) = ((λ q. inr (inl l)), (λ a. newest_one_only p t v w n m))
  same_of v w (of_primary n l) (of_other k m) = absurd (lacks_not p t v n k)
  same_of v w (of_other l n) (of_both x y nx ny e) = absurd (lacks_not p t x nx l)
  same_of v w (of_other l n) (of_primary m k) = absurd (lacks_not p t w m l)
  same_of v w (of_other l n) (of_other k m) = ((λ q. inl l), (λ a. newest_one_only o t v w n m))

-- each row by rule one, and by rule two, is what the engineer's sentence says
pub rule_one : (p o rows : List Write) → Selects (choice_of R.Primary) p o rows → (t : ℕ) (w : Write) → RowIn rows t w → RuleOne p o t w
rule_one p o rows s t w (i, (a, e)) = one_row p o t w (subst (λ (u : ℕ). RowOf (choice_of R.Primary) p o u w) e (s.row i w a))

pub rule_two : (p o rows : List Write) → Selects (choice_of R.Newest) p o rows → (t : ℕ) (w : Write) → RowIn rows t w → RuleTwo p o t w
rule_two p o rows s t w (i, (a, e)) = two_row p o t w (subst (λ (u : ℕ). RowOf (choice_of R.Newest) p o u w) e (s.row i w a))

-- the two rules give the same row for a tag exactly where one of the lists has none of it, or the primary's newest is at least as new as the
-- other's
pub same_row : (p o rows others : List Write) → Selects (choice_of R.Primary) p o rows → Selects (choice_of R.Newest) p o others
    → (t : ℕ) (v w : Write) → RowIn rows t v → RowIn others t w → (v ≡ w → Agree p o t) × (Agree p o t → v ≡ w)
same_row p o rows others r s t v w (i, (a, e)) (j, (b, f)) =
    same_of p o t v w (subst (λ (u : ℕ). RowOf (choice_of R.Primary) p o u v) e (r.row i v a))
    (subst (λ (u : ℕ). RowOf (choice_of R.Newest) p o u w) f (s.row j w b))

-- the sample by both rules
one_made : union (choice_of R.Primary) (newest_of sample_primary) (newest_of sample_other) ≡ sample_one
unfolding union into newest_of
one_made = refl

two_made : union (choice_of R.Newest) (newest_of sample_primary) (newest_of sample_other) ≡ sample_two
unfolding union into newest_of
two_made = refl

pub sample_one_lem : Selects (choice_of R.Primary) sample_primary sample_other sample_one
sample_one_lem = subst (Selects (choice_of R.Primary) sample_primary sample_other) one_made (selection (choice_of R.Primary) sample_primary sample_other)

pub sample_two_lem : Selects (choice_of R.Newest) sample_primary sample_other sample_two
sample_two_lem = subst (Selects (choice_of R.Newest) sample_primary sample_other) two_made (selection (choice_of R.Newest) sample_primary sample_other)
