-- A walk turn by turn: as many turns as there are bytes are enough. Assumes nothing.
use mathlib.Core.Path.{◌≡◌, refl, sym, ap, subst, ◌∙◌}
use mathlib.Core.Bool.{Bool, true, false}
use mathlib.Core.List.{List, [], ◌∷◌, ◌++◌, append-nil, append_assoc}
use Prim.Native.Nat.{ℕ, zero, suc, ◌+◌, ◌-◌, ◌*◌, ◌≤◌, ◌<◌}
use native.Mathlib.Omega.{arith}
use lib.Dec.{eqb}
use lib.ListN.{length, length-append}
use Rattle.cursor.specs.Answer.{Answer, given, refused, Result, gives, refuses, ◌then◌}
use Rattle.cursor.specs.Reads.{number_of}
use Rattle.value.proofs.Bounds.{Between}
use Rattle.value.specs.declared.Value.{Value}
use Rattle.tokens.specs.Instance.{value_in}
use Rattle.tokens.specs.Sight.{Seen, begun, met, sight_at}
use Rattle.tokens.specs.Token.{instance_kind, gist}
use Rattle.tokens.specs.Walk.{Met, handed, header, over, token_of}
use Rattle.tokens.specs.declared.Flags.{Flags}
use Rattle.tokens.specs.declared.Held.TheVariants as H
use Rattle.tokens.specs.declared.Instance.{Instance}
use Rattle.tokens.specs.declared.Token.{Token}
use Rattle.tokens.proofs.Reach.{on, value}
use Rattle.tokens.proofs.Sights.{Sees, sight_sees}
use Rattle.nest.specs.Nested.{Entry, Own, own, Inner, bin_xml, held_in, reading_on, values_from, held_by, meet_at, onward, nest_from, nest_at}

-- what stands before what was read
abbrev pub prepended : List Own → Answer (List Own) → Answer (List Own)
prepended d a = a then λ r last. given (d ++ r) last

pub prepended_none : (a : Answer (List Own)) → a ≡ prepended [] a
prepended_none (given r last) = refl
prepended_none (refused k p) = refl

pub prepended_twice : (d e : List Own) (a : Answer (List Own)) → prepended d (prepended e a) ≡ prepended (d ++ e) a
prepended_twice d e (given r last) = ap (λ (l : List Own). given l last) (sym (append_assoc d e r))
prepended_twice d e (refused k p) = refl

reading_between : {A : Type 0} (r : Result A) (next high : ℕ) → next ≤ high → Between next high (reading_on r next)
reading_between (gives a) next high h = (omega arith, h)
reading_between (refuses k p) next high h = tt {0}

-- a turn ends after its position and within the stream; the walk's end is not before it
abbrev pub Meets : ℕ → ℕ → Answer (Met × List Entry) → Type 0
Meets at high (given (handed t, l) n) = (at < n) × (n ≤ high)
Meets at high (given (header, l) n) = (at < n) × (n ≤ high)
Meets at high (given (over, l) n) = at ≤ n
Meets at high (refused k p) = Unit {0}

onward_same : (s : List ℕ) (inner : Inner) (n at high : ℕ) (x : Answer (Met × List Entry)) (go to : ℕ → ℕ → Answer (List Own)) → Meets at high x
    → ((m j : ℕ) → at < j → j ≤ high → go m j ≡ to m j) → onward s inner n x go ≡ onward s inner n x to
onward_same s inner n at high (given (handed t, l) j) go to h g = ap (prepended (own t l ∷ [])) (g (suc n + length l) j h.0 h.1)
onward_same s inner n at high (given (header, l) j) go to h g = g n j h.0 h.1
onward_same s inner n at high (given (over, l) j) go to h g = refl
onward_same s inner n at high (refused k p) go to h g = refl

module _ (s : List ℕ) (inner : Inner) where
  pub values_between : (count n table at : ℕ) → at ≤ length s → Between at (length s) (values_from s inner n table at count)
  unfolding values_from
  values_between zero n table at h = (omega arith, h)
  values_between (suc count) n table at h =
      on at (length s) (value_in s table at) _ (value s table at h) (λ v next k.
      on next (length s) (reading_on (held_in inner (eqb v.code bin_xml) n v.start (number_of s table 2)) next) _ (reading_between (held_in inner (eqb v.code bin_xml) n v.start (number_of s table 2)) next (length s) k) (λ l m j.
      on m (length s) (values_from s inner (n + length l) (table + 4) m count) _ (values_between count (n + length l) (table + 4) m j) (λ r last i. (omega arith, i))))

  held_meets : (n place at next high : ℕ) (i : Instance) (y : Answer (List Entry)) → at < next → Between next high y
      → Meets at high (y then λ l last. given (handed (token_of place (gist instance_kind 0 false (H.Instance i)) last), l) last)
  held_meets n place at next high i (given l last) h b = (omega (arith, b.0), b.1)
  held_meets n place at next high i (refused k p) h b = tt {0}

  seen_meets : (n at : ℕ) (x : Answer Seen) → Sees at (length s) x → Meets at (length s) (x then held_by s inner n at)
  seen_meets n at (given (begun i) next) h =
      held_meets n at at next (length s) i (values_from s inner (suc n) i.table next i.count) h.0 (values_between i.count (suc n) i.table next h.1)
  seen_meets n at (given (met (handed t)) next) h = (h.0, h.1)
  seen_meets n at (given (met header) next) h = (h.0, h.1)
  seen_meets n at (given (met over) next) h = h
  seen_meets n at (refused k p) h = tt {0}

  module _ (end : ℕ) (f : Flags) where
    pub meet_meets : (n at : ℕ) → Meets at (length s) (meet_at s inner end f n at)
    meet_meets n at = seen_meets n at (sight_at s end f at) (sight_sees s end f at)

    enough : (t u n at : ℕ) → 0 < t → 0 < u → length s < at + t → length s < at + u → nest_from s inner t end f n at ≡ nest_from s inner u end f n at
    unfolding nest_from
    enough zero u n at a b c d = absurd (omega arith)
    enough (suc t) zero n at a b c d = absurd (omega arith)
    enough (suc t) (suc u) n at a b c d =
        onward_same s inner n at (length s) (meet_at s inner end f n at) (nest_from s inner t end f) (nest_from s inner u end f) (meet_meets n at)
        (λ m j l h. enough t u m j (omega arith) (omega arith) (omega arith) (omega arith))

    module _ (n at : ℕ) where
      nest_is : (x : Answer (Met × List Entry)) → meet_at s inner end f n at ≡ x
          → nest_at s inner end f n at ≡ onward s inner n x (nest_from s inner (length s - at) end f)
      unfolding nest_from
      nest_is x e = ap (λ (y : Answer (Met × List Entry)). onward s inner n y (nest_from s inner (length s - at) end f)) e

      fuel : (m j : ℕ) → at < j → j ≤ length s → nest_from s inner (length s - at) end f m j ≡ nest_at s inner end f m j
      fuel m j l h = enough (length s - at) (suc (length s - j)) m j (omega arith) (omega arith) (omega arith) (omega arith)

      nest_handed : (t : Token) (l : List Entry) (next : ℕ) → meet_at s inner end f n at ≡ given (handed t, l) next
          → nest_at s inner end f n at ≡ prepended (own t l ∷ []) (nest_at s inner end f (suc n + length l) next)
      nest_handed t l next e =
          let h = subst (Meets at (length s)) e (meet_meets n at) in
          nest_is (given (handed t, l) next) e ∙ ap (prepended (own t l ∷ [])) (fuel (suc n + length l) next h.0 h.1)

      -- a token that is no instance
      pub nest_token : (t : Token) (next : ℕ) → sight_at s end f at ≡ given (met (handed t)) next
          → nest_at s inner end f n at ≡ prepended (own t [] ∷ []) (nest_at s inner end f (n + 1) next)
      nest_token t next e =
          let z : suc n + 0 ≡ n + 1 = omega arith in
          nest_handed t [] next (ap (λ (x : Answer Seen). x then held_by s inner n at) e)
          ∙ ap (λ (m : ℕ). prepended (own t [] ∷ []) (nest_at s inner end f m next)) z

      pub nest_header : (next : ℕ) → sight_at s end f at ≡ given (met header) next → nest_at s inner end f n at ≡ nest_at s inner end f n next
      nest_header next e =
          let q = ap (λ (x : Answer Seen). x then held_by s inner n at) e in
          let h = subst (Meets at (length s)) q (meet_meets n at) in
          nest_is (given (header, []) next) q ∙ fuel n next h.0 h.1

      pub nest_over : (next : ℕ) → sight_at s end f at ≡ given (met over) next → nest_at s inner end f n at ≡ given [] next
      nest_over next e = nest_is (given (over, []) next) (ap (λ (x : Answer Seen). x then held_by s inner n at) e)

      pub nest_refused : (k p : ℕ) → sight_at s end f at ≡ refused k p → nest_at s inner end f n at ≡ refused k p
      nest_refused k p e = nest_is (refused k p) (ap (λ (x : Answer Seen). x then held_by s inner n at) e)

      -- an instance: its values, and the rest after them
      pub nest_begun : (i : Instance) (next : ℕ) → sight_at s end f at ≡ given (begun i) next
          → nest_at s inner end f n at
          ≡ (values_from s inner (suc n) i.table next i.count then λ l last.
          prepended (own (token_of at (gist instance_kind 0 false (H.Instance i)) last) l ∷ []) (nest_at s inner end f (suc n + length l) last))
      nest_begun i next e = by_values (values_from s inner (suc n) i.table next i.count) (ap (λ (x : Answer Seen). x then held_by s inner n at) e)
        where
          by_values : (y : Answer (List Entry))
              → meet_at s inner end f n at ≡ (y then λ l last. given (handed (token_of at (gist instance_kind 0 false (H.Instance i)) last), l) last)
              → nest_at s inner end f n at
              ≡ (y then λ l last.
              prepended (own (token_of at (gist instance_kind 0 false (H.Instance i)) last) l ∷ []) (nest_at s inner end f (suc n + length l) last))
          by_values (given l last) q = nest_handed (token_of at (gist instance_kind 0 false (H.Instance i)) last) l last q
          by_values (refused k p) q = nest_is (refused k p) q

  -- the values that are left, after one was read
  module _ (n table at left : ℕ) where
    none : values_from s inner n table at 0 ≡ given [] at
    unfolding values_from
    none = refl

    pub values_none : left ≡ 0 → values_from s inner n table at left ≡ given [] at
    values_none e = ap (values_from s inner n table at) e ∙ none

    more : (count : ℕ) (v : Value) (next : ℕ) → value_in s table at ≡ given v next
        → values_from s inner n table at (suc count)
        ≡ (reading_on (held_in inner (eqb v.code bin_xml) n v.start (number_of s table 2)) next then λ l next.
        values_from s inner (n + length l) (table + 4) next count then λ m last.
        given (l ++ m) last)
    unfolding values_from
    more count v next e =
        ap
        (λ (x : Answer Value).
        x then λ v next.
        reading_on (held_in inner (eqb v.code bin_xml) n v.start (number_of s table 2)) next then λ l next.
        values_from s inner (n + length l) (table + 4) next count then λ m last.
        given (l ++ m) last)
        e

    counted : 0 < left → suc (left - 1) ≡ left
    counted h = omega arith

    pub values_held : (v : Value) (next : ℕ) (l : List Entry) → 0 < left → value_in s table at ≡ given v next
        → held_in inner (eqb v.code bin_xml) n v.start (number_of s table 2) ≡ gives l
        → values_from s inner n table at left ≡ (values_from s inner (n + length l) (table + 4) next (left - 1) then λ m last. given (l ++ m) last)
    values_held v next l h e q =
        ap (values_from s inner n table at) (sym (counted h)) ∙ more (left - 1) v next e
        ∙ ap
        (λ (x : Result (List Entry)).
        reading_on x next then λ l next.
        values_from s inner (n + length l) (table + 4) next (left - 1) then λ m last.
        given (l ++ m) last)
        q

    pub values_refused_in : (v : Value) (next k p : ℕ) → 0 < left → value_in s table at ≡ given v next
        → held_in inner (eqb v.code bin_xml) n v.start (number_of s table 2) ≡ refuses k p → values_from s inner n table at left ≡ refused k p
    values_refused_in v next k p h e q =
        ap (values_from s inner n table at) (sym (counted h)) ∙ more (left - 1) v next e
        ∙ ap
        (λ (x : Result (List Entry)).
        reading_on x next then λ l next.
        values_from s inner (n + length l) (table + 4) next (left - 1) then λ m last.
        given (l ++ m) last)
        q

    none_read : (count k p : ℕ) → value_in s table at ≡ refused k p → values_from s inner n table at (suc count) ≡ refused k p
    unfolding values_from
    none_read count k p e =
        ap
        (λ (x : Answer Value).
        x then λ v next.
        reading_on (held_in inner (eqb v.code bin_xml) n v.start (number_of s table 2)) next then λ l next.
        values_from s inner (n + length l) (table + 4) next count then λ m last.
        given (l ++ m) last)
        e

    pub values_refused : (k p : ℕ) → 0 < left → value_in s table at ≡ refused k p → values_from s inner n table at left ≡ refused k p
    values_refused k p h e = ap (values_from s inner n table at) (sym (counted h)) ∙ none_read (left - 1) k p e
