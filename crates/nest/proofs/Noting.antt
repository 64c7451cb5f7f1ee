-- The event of a token: the walk goes on with that token noted, and there is room for it. Assumes nothing.
use mathlib.Core.Path.{◌≡◌, refl, sym, ap, subst, ◌∙◌}
use mathlib.Core.Bool.{Bool, true, false}
use mathlib.Core.List.{List, [], ◌∷◌, ◌++◌}
use Prim.Native.Nat.{ℕ, suc, ◌+◌, ◌*◌, ◌≤◌, ◌<◌}
use native.Mathlib.Omega.{arith}
use lib.Dec.{eqb}
use lib.ListN.{length, set}
use lib.Seq.{sets}
use Rattle.cursor.specs.Answer.{Answer, given, refused, Result, gives, refuses, ◌then◌, pick, Maybe, just, nothing}
use Rattle.tokens.specs.Instance.{ValueNext, values_of, next_of}
use Rattle.tokens.specs.Sight.{Seen, begun, met, sight_at}
use Rattle.tokens.specs.Walk.{handed, header, over}
use Rattle.tokens.specs.declared.Flags.{Flags}
use Rattle.tokens.specs.declared.Instance.{Instance}
use Rattle.tokens.specs.declared.Token.{Token}
use Rattle.tokens.specs.declared.Values.{Values}
use Rattle.tokens.proofs.Sights.{Sees, sight_sees}
use Rattle.sheet.specs.Sheet.{mark_of}
use Rattle.nest.specs.Going as going
use Rattle.nest.specs.Going.{instance_of}
use Rattle.nest.specs.Nested.{bin_xml, ninth_level, Entry, Own, own, Inner, values_from, nest_at, words_at}
use Rattle.nest.specs.Pieces.{full, refusal_of, instance_token, token_event, seen_event, value_event, event_at}
use Rattle.nest.specs.declared.inner.Event.TheVariants as E
use Rattle.nest.specs.declared.inner.Place.{Place}
use Rattle.nest.specs.declared.inner.Place.TheVariants as P
use Rattle.nest.proofs.Nesting.{prepended, prepended_twice, nest_token, nest_begun}
use Rattle.nest.proofs.Events.{differs, token_parts}
use Rattle.nest.proofs.Kept.{kept_token}
use Rattle.nest.proofs.Standing as standing

module _ (level first : ℕ) (sheet₀ table₀ : List ℕ) where
  module _ (s : List ℕ) (inner : Inner) (end : ℕ) (f : Flags) (whole : Answer (List Own)) where
    abbrev Going : ℕ → ℕ → ℕ → List ℕ → List ℕ → List ℕ → List ℕ → Type 0
    Going at n k marks numbers sheet table = going.Going level first sheet₀ table₀ s inner end f whole at n k marks numbers sheet table

    abbrev Stands : Place → ℕ → ℕ → ℕ → List ℕ → List ℕ → List ℕ → List ℕ → Type 0
    Stands place n last k marks numbers sheet table = standing.Stands level first sheet₀ table₀ s inner end f whole place n last k marks numbers sheet table

    abbrev Goes : Place → Place → ℕ → ℕ → ℕ → List ℕ → List ℕ → List ℕ → List ℕ → Type 0
    Goes place to n last k marks numbers sheet table = standing.Goes level first sheet₀ table₀ s inner end f whole place to n last k marks numbers sheet table

    abbrev after_values : List Own → Instance → ℕ → List Entry → ℕ → List Entry → ℕ → Answer (List Own)
    after_values d i place c n l last = standing.after_values level first sheet₀ table₀ s inner end f whole d i place c n l last

    module _ (small : length s ≤ 65536) (n last k : ℕ) (marks numbers sheet table : List ℕ) (left : ℕ) (room : Bool) where
      -- an instance's head has ended, or a token
      module _ (t : Token) (to : Place) (marks' numbers' sheet' : List ℕ) (l : k < length marks) (m : k < length numbers) (a : marks' ≡ set marks k (mark_of t))
          (b : numbers' ≡ set numbers k n) (c : sheet' ≡ sets sheet (n * 2) (words_at level t)) where
        from_seen : (at : ℕ) → Going at n k marks numbers sheet table → (x : Answer Seen) → sight_at s end f at ≡ x → Sees at (length s) x → seen_event room at x ≡ E.Token to t
            → Goes (P.Between at) to (n + 1) n (k + 1) marks' numbers' sheet' table
        from_seen at g (given (begun i) next) e h q = by_room room q
          where
            made : t ≡ instance_token at next → to ≡ P.Inside at (values_of i) → Goes (P.Between at) to (n + 1) n (k + 1) marks' numbers' sheet' table
            made p r =
                subst (λ (z : Place). Goes (P.Between at) z (n + 1) n (k + 1) marks' numbers' sheet' table) (sym r) (
                  (record {
                    done = g.done;
                    instance = i;
                    so_far = next;
                    held = [];
                    kept = kept_token level first sheet₀ table₀ g.done n k marks numbers sheet table marks' numbers' sheet' t (instance_of i at next) g.kept l m (sym (ap mark_of p)) (sym (ap (words_at level) p)) a b c;
                    number = g.kept.many;
                    rest =
                        g.rest ∙ ap (prepended g.done) (nest_begun s inner end f n at i next e)
                        ∙ began (values_from s inner (suc n) i.table next i.count)
                        ∙ ap (λ (z : ℕ). values_from s inner z i.table next i.count then after_values g.done i at [] z) (suc_is n)
                        ∙ ap (λ (z : ℕ). values_from s inner (n + 1) i.table z i.count then after_values g.done i at [] (n + 1)) (sym h.3);
                    low = omega (arith, g.low, h.0, h.3);
                    high = omega (arith, h.1, h.3);
                    stands = h.2;
                    after = omega (arith, h.0, h.3);
                  }),
                  omega (arith, h.0, h.1, h.2, small),
                )
              where
                suc_is : (n : ℕ) → suc n ≡ n + 1
                suc_is n = omega arith

                began : (y : Answer (List Entry))
                    → prepended g.done (y then λ l last. prepended (own (instance_of i at last) l ∷ []) (nest_at s inner end f (suc n + length l) last))
                    ≡ (y then after_values g.done i at [] (suc n))
                began (given l last) = prepended_twice g.done (own (instance_of i at last) l ∷ []) (nest_at s inner end f (suc n + length l) last)
                began (refused k p) = refl

            by_room : (r : Bool) → token_event r (instance_token at next) (P.Inside at (values_of i)) ≡ E.Token to t → Goes (P.Between at) to (n + 1) n (k + 1) marks' numbers' sheet' table
            by_room true q =
                let z = token_parts (instance_token at next) t (P.Inside at (values_of i)) to q in
                made (sym z.0) (sym z.1)
            by_room false q = differs (E.Refused (refusal_of full 0)) (E.Token to t) q (λ z. omega arith)
        from_seen at g (given (met (handed u)) next) e h q = by_room room q
          where
            made : u ≡ t → P.Between next ≡ to → Goes (P.Between at) to (n + 1) n (k + 1) marks' numbers' sheet' table
            made p r =
                subst (λ (z : Place). Goes (P.Between at) z (n + 1) n (k + 1) marks' numbers' sheet' table) r (
                  (record {
                    done = g.done ++ (own u [] ∷ []);
                    kept = kept_token level first sheet₀ table₀ g.done n k marks numbers sheet table marks' numbers' sheet' t u g.kept l m (ap mark_of p) (ap (words_at level) p) a b c;
                    rest = g.rest ∙ ap (prepended g.done) (nest_token s inner end f n at u next e) ∙ prepended_twice g.done (own u [] ∷ []) (nest_at s inner end f (n + 1) next);
                    low = omega (arith, g.low, h.0);
                    high = h.1;
                  }),
                  omega (arith, h.0, h.1),
                )

            by_room : (r : Bool) → token_event r u (P.Between next) ≡ E.Token to t → Goes (P.Between at) to (n + 1) n (k + 1) marks' numbers' sheet' table
            by_room true q =
                let z = token_parts u t (P.Between next) to q in
                made z.0 z.1
            by_room false q = differs (E.Refused (refusal_of full 0)) (E.Token to t) q (λ z. omega arith)
        from_seen at g (given (met header) next) e h q = differs (E.Moved (P.Between next)) (E.Token to t) q (λ z. omega arith)
        from_seen at g (given (met over) next) e h q = differs (E.Over (P.Between next)) (E.Token to t) q (λ z. omega arith)
        from_seen at g (refused j p) e h q = differs (E.Refused (refusal_of j p)) (E.Token to t) q (λ z. omega arith)

        not_held : (v : Values) (place : ℕ) (x : Result (Maybe ValueNext)) → value_event left place v x ≡ E.Token to t → ⊥
        not_held v place (gives (just x)) q = by_code (eqb x.value.code bin_xml) (eqb left 0) q
          where
            by_code : (a b : Bool)
                → pick a (pick b (E.Refused (refusal_of ninth_level x.value.start)) (E.Body (P.Inside place x.rest) x.value.start x.size)) (E.Moved (P.Inside place x.rest)) ≡ E.Token to t → ⊥
            by_code true true q = differs (E.Refused (refusal_of ninth_level x.value.start)) (E.Token to t) q (λ z. omega arith)
            by_code true false q = differs (E.Body (P.Inside place x.rest) x.value.start x.size) (E.Token to t) q (λ z. omega arith)
            by_code false b q = differs (E.Moved (P.Inside place x.rest)) (E.Token to t) q (λ z. omega arith)
        not_held v place (gives nothing) q = differs (E.Ended (P.Between v.at) (instance_token place v.at)) (E.Token to t) q (λ z. omega arith)
        not_held v place (refuses j p) q = differs (E.Refused (refusal_of j p)) (E.Token to t) q (λ z. omega arith)

        pub on_token : (place : Place) → Stands place n last k marks numbers sheet table → event_at s end f left room place ≡ E.Token to t
            → Goes place to (n + 1) n (k + 1) marks' numbers' sheet' table
        on_token (P.Between at) g q = from_seen at g (sight_at s end f at) refl (sight_sees s end f at) q
        on_token (P.Inside place v) g q = absurd (not_held v place (next_of s v) q)

    -- a token is noted only where there is room for it
    pub token_room : (left : ℕ) (room : Bool) (place to : Place) (t : Token) → event_at s end f left room place ≡ E.Token to t → room ≡ true
    token_room left true place to t q = refl
    token_room left false (P.Between at) to t q = by_seen (sight_at s end f at) q
      where
        by_seen : (x : Answer Seen) → seen_event false at x ≡ E.Token to t → false ≡ true
        by_seen (given (begun i) next) q = differs (E.Refused (refusal_of full 0)) (E.Token to t) q (λ z. omega arith)
        by_seen (given (met (handed u)) next) q = differs (E.Refused (refusal_of full 0)) (E.Token to t) q (λ z. omega arith)
        by_seen (given (met header) next) q = differs (E.Moved (P.Between next)) (E.Token to t) q (λ z. omega arith)
        by_seen (given (met over) next) q = differs (E.Over (P.Between next)) (E.Token to t) q (λ z. omega arith)
        by_seen (refused j p) q = differs (E.Refused (refusal_of j p)) (E.Token to t) q (λ z. omega arith)
    token_room left false (P.Inside place v) to t q = by_next (next_of s v) q
      where
        by_next : (x : Result (Maybe ValueNext)) → value_event left place v x ≡ E.Token to t → false ≡ true
        by_next (gives (just x)) q = by_code (eqb x.value.code bin_xml) (eqb left 0) q
          where
            by_code : (a b : Bool)
                → pick a (pick b (E.Refused (refusal_of ninth_level x.value.start)) (E.Body (P.Inside place x.rest) x.value.start x.size)) (E.Moved (P.Inside place x.rest)) ≡ E.Token to t → false ≡ true
            by_code true true q = differs (E.Refused (refusal_of ninth_level x.value.start)) (E.Token to t) q (λ z. omega arith)
            by_code true false q = differs (E.Body (P.Inside place x.rest) x.value.start x.size) (E.Token to t) q (λ z. omega arith)
            by_code false b q = differs (E.Moved (P.Inside place x.rest)) (E.Token to t) q (λ z. omega arith)
        by_next (gives nothing) q = differs (E.Ended (P.Between v.at) (instance_token place v.at)) (E.Token to t) q (λ z. omega arith)
        by_next (refuses j p) q = differs (E.Refused (refusal_of j p)) (E.Token to t) q (λ z. omega arith)
