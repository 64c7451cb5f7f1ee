-- Where the walk of a window stands, and what it has noted by then. Assumes nothing.
use mathlib.Core.Path.{◌≡◌, sym, subst}
use mathlib.Core.List.{List, [], ◌∷◌, ◌++◌}
use Prim.Native.Nat.{ℕ, ◌+◌, ◌-◌, ◌*◌, ◌≤◌, ◌<◌}
use native.Mathlib.Omega.{arith}
use lib.Dec.{ltb}
use lib.ListN.{length}
use Rattle.cursor.specs.Answer.{Answer}
use Rattle.tokens.specs.declared.Flags.{Flags}
use Rattle.tokens.specs.declared.Instance.{Instance}
use Rattle.tokens.specs.declared.Values.{Values}
use Rattle.nest.specs.Going as going
use Rattle.nest.specs.Going.{instance_of, MetAt, Meets, Near}
use Rattle.nest.specs.Nested.{deepest_body, Entry, Own, own, Inner, nest_at}
use Rattle.nest.specs.Pieces.{event_at}
use Rattle.nest.specs.declared.inner.Place.{Place}
use Rattle.nest.specs.declared.inner.Place.TheVariants as P
use Rattle.nest.specs.declared.inner.Stop.{Stop}
use Rattle.nest.proofs.Nesting.{prepended}
use Rattle.nest.proofs.Stacks.{few}

module _ (level first : ℕ) (sheet₀ table₀ : List ℕ) where
  module _ (s : List ℕ) (inner : Inner) (end : ℕ) (f : Flags) (whole : Answer (List Own)) where
    abbrev Going : ℕ → ℕ → ℕ → List ℕ → List ℕ → List ℕ → List ℕ → Type 0
    Going at n k marks numbers sheet table = going.Going level first sheet₀ table₀ s inner end f whole at n k marks numbers sheet table

    -- what follows an instance's values that are left
    abbrev pub after_values : List Own → Instance → ℕ → List Entry → ℕ → List Entry → ℕ → Answer (List Own)
    after_values d i place c n l last = prepended (d ++ (own (instance_of i place last) (c ++ l) ∷ [])) (nest_at s inner end f (n + length l) last)

    abbrev Among : ℕ → Values → ℕ → ℕ → ℕ → List ℕ → List ℕ → List ℕ → List ℕ → Type 0
    Among place v n at k marks numbers sheet table = going.Among level first sheet₀ table₀ s inner end f whole place v n at k marks numbers sheet table

    abbrev pub Stands : Place → ℕ → ℕ → ℕ → List ℕ → List ℕ → List ℕ → List ℕ → Type 0
    Stands (P.Between at) n last k marks numbers sheet table = Going at n k marks numbers sheet table
    Stands (P.Inside place v) n last k marks numbers sheet table = Among place v n last k marks numbers sheet table

    -- what is left to read: at least this many turns
    abbrev pub left_of : Place → ℕ
    left_of (P.Between at) = 0x2_0000_0000 * (length s + 1 - at)
    left_of (P.Inside place v) = 0x2_0000_0000 * (length s - place) + v.left + 1

    -- where the walk stands then, with less left to read
    abbrev pub Goes : Place → Place → ℕ → ℕ → ℕ → List ℕ → List ℕ → List ℕ → List ℕ → Type 0
    Goes place to n last k marks numbers sheet table = Stands to n last k marks numbers sheet table × (left_of to < left_of place)

    pub stands_few : (place : Place) (n last k : ℕ) (marks numbers sheet table : List ℕ) → Stands place n last k marks numbers sheet table → first + k ≤ n
    stands_few (P.Between at) n last k marks numbers sheet table g = omega (arith, g.kept.depth, g.kept.many, few g.done)
    stands_few (P.Inside place v) n last k marks numbers sheet table g =
        let d = g.done ++ (own (instance_of g.instance place g.so_far) g.held ∷ []) in
        omega (arith, g.kept.depth, g.kept.many, few d)

    pub stands_short : (place : Place) (n last k : ℕ) (marks numbers sheet table : List ℕ) → Stands place n last k marks numbers sheet table → n ≤ length s
    stands_short (P.Between at) n last k marks numbers sheet table g = omega (arith, g.low, g.high)
    stands_short (P.Inside place v) n last k marks numbers sheet table g = omega (arith, g.low, g.high)

    pub stands_near : (place : Place) (n last k : ℕ) (marks numbers sheet table : List ℕ) → Stands place n last k marks numbers sheet table → Near s place n
    stands_near (P.Between at) n last k marks numbers sheet table g = (g.low, g.high)
    stands_near (P.Inside place v) n last k marks numbers sheet table g = tt {0}

pub less_than : (x y z : ℕ) → x < y → y ≤ z → x < z
less_than x y z a b = omega arith

-- where a walk stands when it has met something, and what it meets there
module _ (left first : ℕ) (sheet₀ table₀ s : List ℕ) (inner : Inner) (end : ℕ) (f : Flags) (whole : Answer (List Own)) where
  pub record Reached (place : Place) (n last k : ℕ) (marks numbers sheet marks' numbers' sheet' table : List ℕ) (r : Stop) : Type 0 where
    pub from : Place
    pub met : r.event ≡ event_at s end f left (ltb r.k (length marks')) from
    pub stands : Stands (deepest_body - left) first sheet₀ table₀ s inner end f whole from r.n last r.k marks' numbers' sheet' table
    pub less : left_of (deepest_body - left) first sheet₀ table₀ s inner end f whole from ≤ left_of (deepest_body - left) first sheet₀ table₀ s inner end f whole place

  abbrev Inside : ℕ → Values → ℕ → List ℕ → ℕ → ℕ → List ℕ → List ℕ → List ℕ → Type 0
  Inside at v last table n k marks numbers sheet = Stands (deepest_body - left) first sheet₀ table₀ s inner end f whole (P.Inside at v) n last k marks numbers sheet table

  pub reached : (place : Place) (n last k : ℕ) (marks numbers sheet marks' numbers' sheet' table : List ℕ) (r : Stop)
      → Stands (deepest_body - left) first sheet₀ table₀ s inner end f whole place n last k marks numbers sheet table
      → Meets s end f left place n k marks numbers sheet marks' numbers' sheet' r → Reached place n last k marks numbers sheet marks' numbers' sheet' table r
  reached place n last k marks numbers sheet marks' numbers' sheet' table r g m = by_place place g m.at
    where
      by_place : (place : Place) → Stands (deepest_body - left) first sheet₀ table₀ s inner end f whole place n last k marks numbers sheet table
          → MetAt s end f left place n k marks numbers sheet marks' numbers' sheet' r → Reached place n last k marks numbers sheet marks' numbers' sheet' table r
      by_place (P.Between at) g m =
          record {
            from = P.Between m.here;
            met = m.met;
            stands = m.carries first sheet₀ table₀ table inner whole g;
            less = omega (arith, m.onward);
          }
      by_place (P.Inside at v) g m =
          record {
            from = P.Inside at m.passed.here;
            met = m.passed.met;
            stands =
                m.passed.passes (deepest_body - left) first sheet₀ table₀ inner end f whole r.n last r.k marks' numbers' sheet' table
                (subst (λ (z : ℕ). Inside at v last table z r.k marks' numbers' sheet') (sym m.n_same)
                (subst (λ (z : ℕ). Inside at v last table n z marks' numbers' sheet') (sym m.k_same)
                (subst (λ (z : List ℕ). Inside at v last table n k z numbers' sheet') (sym m.marks_same)
                (subst (λ (z : List ℕ). Inside at v last table n k marks z sheet') (sym m.numbers_same)
                (subst (λ (z : List ℕ). Inside at v last table n k marks numbers z) (sym m.sheet_same) g)))));
            less = omega (arith, m.passed.fewer);
          }
