-- Carving stays in its range: a run from a state with a carve range is carved records within it, and then a run from the same place with
-- the range used up. Assumes nothing.
use Rattle.std.specs.Prelude.{Some, None, Option}
use mathlib.Core.Path.{◌≡◌, refl, sym, ap, subst, ◌∙◌}
use mathlib.Core.Logic.{◌⊎◌, inl, inr, ⊎_elim}
use mathlib.Core.Bool.{Bool, true}
use mathlib.Core.List.{List, [], ◌∷◌, ◌++◌}
use Prim.Native.Nat.{ℕ, ◌+◌, ◌≤◌, ◌<◌}
use native.Mathlib.Decide.{dec_lt}
use native.Mathlib.Omega.{arith}
use borrow.Author.Tests.{leb-true, lt-ltb}
use lib.Dec.{leb}
use Rattle.cursor.specs.Answer.{Answer, given, refused, Maybe, just, nothing}
use Rattle.record.specs.Chunk.{fields_at}
use Rattle.record.specs.Record.{strict_at}
use Rattle.record.specs.declared.Fields.{Fields}
use Rattle.record.specs.declared.Record.{Record}
use Rattle.record.proofs.Within.{strict_inside}
use Rattle.search.specs.Least.{Least}
use Rattle.search.specs.Allowed.{reads, carvable}
use Rattle.search.proofs.Magics.{and_true}
use Rattle.chunk.specs.Walk.{Choose, Reply, live, carved, refused_with, TurnEnd, answered, going_on, Carves, Turns, Goes, answers, goes_on, Steps, StepsOn, WalkTurn, carved_at, after_carve, used_up}
use Rattle.chunk.specs.Listing.{Runs}
use Rattle.chunk.specs.declared.Walk.{Walk}
use Rattle.chunk.proofs.Phases.{answers_not, carve_next}
use Rattle.chunk.proofs.Order.{answered_is}
use Rattle.chunk.proofs.Whole.{step_goes}
use Rattle.promises.specs.Damage.{CarvedWithin}

-- a wider range
pub carved_wider : (a b c d : ℕ) (items : List Reply) → a ≤ b → c ≤ d → CarvedWithin b c items → CarvedWithin a d items
unfolding CarvedWithin
carved_wider a b c d [] l m k = tt {0}
carved_wider a b c d (carved r ∷ items) l m (f, g, k) = (omega arith, omega arith, carved_wider a b c d items l m k)
carved_wider a b c d (live r ∷ items) l m k = k
carved_wider a b c d (refused_with number place ∷ items) l m k = k

-- the state after a carved record that ends at `end`
abbrev carved_to : Walk → ℕ → Walk
carved_to w end = record { place = w.place; from = end; to = w.to; recover = w.recover }

-- a range that starts where it ends is used up
used_path : (w : Walk) → w.from ≡ w.to → w ≡ used_up w
used_path w e i = record { place = w.place; from = e i; to = w.to; recover = w.recover }

-- what a carve answers: a record within the range, and the range from its end on
record CarvedOne (w : Walk) (x : Walk × Maybe Reply) : Type 0 where
  which : Record
  is : x ≡ (carved_to w (which.offset + which.size), just (carved which))
  after : w.from ≤ which.offset
  ends : which.offset + which.size ≤ w.to

-- what a run begins with: carved records within the range, and then a run with the range used up
pub record CarvedFirst (s : List ℕ) (w : Walk) (items : List Reply) : Type 0 where
  pub first : List Reply
  pub rest : List Reply
  pub is : items ≡ first ++ rest
  pub within : CarvedWithin w.from w.to first
  pub runs : Runs s (used_up w) rest

module _ (s : List ℕ) where
  carved_by : (w : Walk) (x : Walk × Maybe Reply) (k : ℕ) → w.from ≤ k → (a : Answer Record) → strict_at s k ≡ a
      → reads (λ r end. leb end w.to) a ≡ true → answered x ≡ carved_at w a → CarvedOne w x
  carved_by w x k l (given r m) e y f =
      let i = strict_inside s k r m e in
      let z = leb-true m w.to y in
      let g : m ≡ r.offset + r.size = omega (arith, i.same, i.after) in
      record {
        which = r;
        is = answered_is x _ f ∙ ap (λ (end : ℕ). (carved_to w end, just (carved r))) g;
        after = omega (arith, i.same);
        ends = omega arith;
      }
  carved_by w x k l (refused m c) e y f = absurd (answers_not _ x (sym f))

  carve_by : (w : Walk) (x : Walk × Maybe Reply) (f : Option ℕ) → Least (carvable s w.to) w.from f → answered x ≡ after_carve s w f → CarvedOne w x
  carve_by w x (Some k) m e = carved_by w x k m.0 (strict_at s k) refl (and_true (leb (k + 4) w.to) _ m.1).1 e
  carve_by w x None m e = absurd (answers_not _ x (sym e))

  module _ (h : Fields) where
    -- while the range stands a turn is a carve
    is_carve : (w : Walk) (u : TurnEnd) → w.from < w.to → Turns s h w u → Carves s w u
    is_carve w u l c = subst (λ (b : Bool). Choose b (Carves s w u) (WalkTurn s h w w.place u)) (lt-ltb w.from w.to l) c

    -- a step carves a record, or uses the range up and goes on
    standing : (x : Walk × Maybe Reply) {w : Walk} → w.from < w.to → Goes s h x w → CarvedOne w x ⊎ Goes s h x (used_up w)
    standing x {w} l (answers c) = let k = is_carve w (answered x) l c in inl (carve_by w x k.found k.least k.is)
    standing x {w} l (goes_on {next = v} c g) =
        let k = is_carve w (going_on v) l c in
        inr (subst (Goes s h x) (carve_next w v s k.found k.is) g)

    module _ (n : ℕ) (header : fields_at s ≡ given h n) where
      to_step : (w : Walk) (x : Walk × Maybe Reply) → Goes s h x w → Steps s w x
      to_step w x g = subst (StepsOn s w x) (sym header) g

      -- no record is carved
      none_first : (w : Walk) (items : List Reply) → Runs s (used_up w) items → CarvedFirst s w items
      unfolding CarvedWithin
      none_first w items r = record { first = []; rest = items; is = refl; within = tt {0}; runs = r }

      -- one is, and then others
      one_first : (w v : Walk) (i : Reply) (items : List Reply) → CarvedOne w (v, just i) → CarvedFirst s v items → CarvedFirst s w (i ∷ items)
      unfolding CarvedWithin
      one_first w v i items o y =
          let r = o.which in
          let e = ap (λ (z : Walk × Maybe Reply). z.0) o.is in
          let f : i ≡ carved r = cc (ap (λ (z : Walk × Maybe Reply). z.1) o.is) in
          let a = ap (λ (z : Walk). z.from) e in
          let b = ap (λ (z : Walk). z.to) e in
          let more = carved_wider w.from v.from v.to w.to y.first (omega (arith, a, o.after)) (omega (arith, b)) y.within in
          record {
            first = i ∷ y.first;
            rest = y.rest;
            is = ap (λ (l : List Reply). i ∷ l) y.is;
            within = subst (λ (j : Reply). CarvedWithin w.from w.to (j ∷ y.first)) (sym f) (o.after, o.ends, more);
            runs = subst (λ (z : Walk). Runs s (used_up z) y.rest) e y.runs;
          }

      not_done : (w v : Walk) → CarvedOne w (v, nothing) → ⊥
      not_done w v o =
          let e = ap (λ (z : Walk × Maybe Reply). z.1) o.is in
          let z : ◌≡◌ {A = ℕ} 0 1 = cc in
          omega arith

      pub carves_first : (w : Walk) (items : List Reply) → w.from ≤ w.to → Runs s w items → CarvedFirst s w items
      unfolding Runs
      carves_first w [] l (v, c) =
          elim (dec_lt w.from w.to) [
            | yes k ↦ ⊎_elim (λ (o : CarvedOne w (v, nothing)). absurd (not_done w v o)) (λ (g : Goes s h (v, nothing) (used_up w)). none_first w [] (v, to_step (used_up w) (v, nothing) g)) (standing (v, nothing) k (step_goes s h n w (v, nothing) header c))
            | no k ↦ none_first w [] (subst (λ (z : Walk). Runs s z []) (used_path w (omega arith)) (v, c))
          ]
      carves_first w (i ∷ items) l (v, (c, r)) =
          elim (dec_lt w.from w.to) [
            | yes k ↦ ⊎_elim
                (λ (o : CarvedOne w (v, just i)). one_first w v i items o (carves_first v items (omega (arith, ap (λ (z : Walk × Maybe Reply). z.0.from) o.is, ap (λ (z : Walk × Maybe Reply). z.0.to) o.is, o.ends)) r))
                (λ (g : Goes s h (v, just i) (used_up w)). none_first w (i ∷ items) (v, (to_step (used_up w) (v, just i) g, r)))
                (standing (v, just i) k (step_goes s h n w (v, just i) header c))
            | no k ↦ none_first w (i ∷ items) (subst (λ (z : Walk). Runs s z (i ∷ items)) (used_path w (omega arith)) (v, (c, r)))
          ]
