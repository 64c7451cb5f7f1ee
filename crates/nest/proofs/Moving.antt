-- The events of a header, of a value with no body and of an instance's end: the walk goes on, with less left to read. Assumes nothing.
use mathlib.Core.Path.{◌≡◌, refl, sym, ap, subst, ◌∙◌}
use mathlib.Core.Bool.{Bool, true, false}
use mathlib.Core.List.{List, [], ◌∷◌, ◌++◌, append-nil}
use Prim.Native.Nat.{ℕ, ◌+◌, ◌*◌, ◌≤◌}
use native.Mathlib.Omega.{arith}
use lib.Dec.{eqb}
use lib.ListN.{length}
use lib.Seq.{sets}
use Rattle.cursor.specs.Answer.{Answer, given, refused, Result, gives, refuses, ◌then◌, pick, Maybe, just, nothing}
use Rattle.tokens.specs.Instance.{ValueNext, values_of, next_of}
use Rattle.tokens.specs.Sight.{Seen, begun, met, sight_at}
use Rattle.tokens.specs.Walk.{handed, header, over}
use Rattle.tokens.specs.declared.Flags.{Flags}
use Rattle.tokens.specs.declared.Instance.{Instance}
use Rattle.tokens.specs.declared.Token.{Token}
use Rattle.tokens.proofs.Sights.{Sees, sight_sees}
use Rattle.nest.specs.Going as going
use Rattle.nest.specs.Going.{instance_of}
use Rattle.nest.specs.Nested.{bin_xml, ninth_level, Entry, Own, own, Inner, nest_at, words_at}
use Rattle.nest.specs.Pieces.{full, refusal_of, instance_token, token_event, seen_event, value_event, event_at}
use Rattle.nest.specs.declared.inner.Event.TheVariants as E
use Rattle.nest.specs.declared.inner.Place.{Place}
use Rattle.nest.specs.declared.inner.Place.TheVariants as P
use Rattle.nest.proofs.Nesting.{prepended, nest_header, values_none}
use Rattle.nest.proofs.Values.{NextIs, next_is}
use Rattle.nest.proofs.Events.{differs}
use Rattle.nest.proofs.Kept.{kept_ended}
use Rattle.nest.proofs.Standing as standing
use Rattle.nest.proofs.Bodies.{held_none, less_held}

module _ (level first : ℕ) (sheet₀ table₀ : List ℕ) where
  module _ (s : List ℕ) (inner : Inner) (end : ℕ) (f : Flags) (whole : Answer (List Own)) where
    abbrev Going : ℕ → ℕ → ℕ → List ℕ → List ℕ → List ℕ → List ℕ → Type 0
    Going at n k marks numbers sheet table = going.Going level first sheet₀ table₀ s inner end f whole at n k marks numbers sheet table

    abbrev Stands : Place → ℕ → ℕ → ℕ → List ℕ → List ℕ → List ℕ → List ℕ → Type 0
    Stands place n last k marks numbers sheet table = standing.Stands level first sheet₀ table₀ s inner end f whole place n last k marks numbers sheet table

    abbrev Goes : Place → Place → ℕ → ℕ → ℕ → List ℕ → List ℕ → List ℕ → List ℕ → Type 0
    Goes place to n last k marks numbers sheet table = standing.Goes level first sheet₀ table₀ s inner end f whole place to n last k marks numbers sheet table

    abbrev after_values : List Own → Instance → ℕ → List Entry → ℕ → List Entry → ℕ → Answer (List Own)
    after_values d i place c n l last = standing.after_values level first sheet₀ table₀ s inner end f whole d i place c n l last

    module _ (small : length s ≤ 65536) (n last k : ℕ) (marks numbers sheet table : List ℕ) (left : ℕ) (room : Bool) where
      -- a value with no body, or a header
      module _ (to : Place) where
        moved_seen : (at : ℕ) → Going at n k marks numbers sheet table → (x : Answer Seen) → sight_at s end f at ≡ x → Sees at (length s) x → seen_event room at x ≡ E.Moved to
            → Goes (P.Between at) to n last k marks numbers sheet table
        moved_seen at g (given (begun i) next) e h q = by_room room q
          where
            by_room : (r : Bool) → token_event r (instance_token at next) (P.Inside at (values_of i)) ≡ E.Moved to → Goes (P.Between at) to n last k marks numbers sheet table
            by_room true q = differs (E.Token (P.Inside at (values_of i)) (instance_token at next)) (E.Moved to) q (λ z. omega arith)
            by_room false q = differs (E.Refused (refusal_of full 0)) (E.Moved to) q (λ z. omega arith)
        moved_seen at g (given (met (handed u)) next) e h q = by_room room q
          where
            by_room : (r : Bool) → token_event r u (P.Between next) ≡ E.Moved to → Goes (P.Between at) to n last k marks numbers sheet table
            by_room true q = differs (E.Token (P.Between next) u) (E.Moved to) q (λ z. omega arith)
            by_room false q = differs (E.Refused (refusal_of full 0)) (E.Moved to) q (λ z. omega arith)
        moved_seen at g (given (met header) next) e h q =
            let r : P.Between next ≡ to = cc in
            subst (λ (z : Place). Goes (P.Between at) z n last k marks numbers sheet table) r (
              (record {
                done = g.done;
                kept = g.kept;
                rest = g.rest ∙ ap (prepended g.done) (nest_header s inner end f n at next e);
                low = omega (arith, g.low, h.0);
                high = h.1;
              }),
              omega (arith, h.0, h.1),
            )
        moved_seen at g (given (met over) next) e h q = differs (E.Over (P.Between next)) (E.Moved to) q (λ z. omega arith)
        moved_seen at g (refused j p) e h q = differs (E.Refused (refusal_of j p)) (E.Moved to) q (λ z. omega arith)

      pub on_moved : (place to : Place) → Stands place n last k marks numbers sheet table → event_at s end f left room place ≡ E.Moved to
          → Goes place to n last k marks numbers sheet table
      on_moved (P.Between at) to g q = moved_seen to at g (sight_at s end f at) refl (sight_sees s end f at) q
      on_moved (P.Inside place v) to g q = by_next (next_of s v) (next_is s v g.stands g.high) q
        where
          by_next : (x : Result (Maybe ValueNext)) → NextIs s v x → value_event left place v x ≡ E.Moved to → Goes (P.Inside place v) to n last k marks numbers sheet table
          by_next (gives (just x)) e q = by_code (eqb x.value.code bin_xml) refl (eqb left 0) q
            where
              by_code : (a : Bool) → eqb x.value.code bin_xml ≡ a → (b : Bool)
                  → pick a (pick b (E.Refused (refusal_of ninth_level x.value.start)) (E.Body (P.Inside place x.rest) x.value.start x.size)) (E.Moved (P.Inside place x.rest)) ≡ E.Moved to
                  → Goes (P.Inside place v) to n last k marks numbers sheet table
              by_code true c true q = differs (E.Refused (refusal_of ninth_level x.value.start)) (E.Moved to) q (λ z. omega arith)
              by_code true c false q = differs (E.Body (P.Inside place x.rest) x.value.start x.size) (E.Moved to) q (λ z. omega arith)
              by_code false c b q =
                  let r : P.Inside place x.rest ≡ to = cc in
                  subst (λ (z : Place). Goes (P.Inside place v) z n last k marks numbers sheet table) r (held_none level first sheet₀ table₀ s inner end f whole small n last k marks numbers sheet table left room place v g x e c, less_held level first sheet₀ table₀ s inner end f whole small n last k marks numbers sheet table left room place v g x e)
          by_next (gives nothing) e q = differs (E.Ended (P.Between v.at) (instance_token place v.at)) (E.Moved to) q (λ z. omega arith)
          by_next (refuses j p) e q = differs (E.Refused (refusal_of j p)) (E.Moved to) q (λ z. omega arith)

      -- an instance has ended: its words are put again
      pub on_ended : (place to : Place) (t : Token) (sheet' : List ℕ) → Stands place n last k marks numbers sheet table
          → event_at s end f left room place ≡ E.Ended to t → sheet' ≡ sets sheet (last * 2) (words_at level t)
          → Goes place to n last k marks numbers sheet' table
      on_ended (P.Between at) to t sheet' g q c = by_seen (sight_at s end f at) q
        where
          by_seen : (x : Answer Seen) → seen_event room at x ≡ E.Ended to t → Goes (P.Between at) to n last k marks numbers sheet' table
          by_seen (given (begun i) next) q = by_room room q
            where
              by_room : (r : Bool) → token_event r (instance_token at next) (P.Inside at (values_of i)) ≡ E.Ended to t → Goes (P.Between at) to n last k marks numbers sheet' table
              by_room true q = differs (E.Token (P.Inside at (values_of i)) (instance_token at next)) (E.Ended to t) q (λ z. omega arith)
              by_room false q = differs (E.Refused (refusal_of full 0)) (E.Ended to t) q (λ z. omega arith)
          by_seen (given (met (handed u)) next) q = by_room room q
            where
              by_room : (r : Bool) → token_event r u (P.Between next) ≡ E.Ended to t → Goes (P.Between at) to n last k marks numbers sheet' table
              by_room true q = differs (E.Token (P.Between next) u) (E.Ended to t) q (λ z. omega arith)
              by_room false q = differs (E.Refused (refusal_of full 0)) (E.Ended to t) q (λ z. omega arith)
          by_seen (given (met header) next) q = differs (E.Moved (P.Between next)) (E.Ended to t) q (λ z. omega arith)
          by_seen (given (met over) next) q = differs (E.Over (P.Between next)) (E.Ended to t) q (λ z. omega arith)
          by_seen (refused j p) q = differs (E.Refused (refusal_of j p)) (E.Ended to t) q (λ z. omega arith)
      on_ended (P.Inside place v) to t sheet' g q c = by_next (next_of s v) (next_is s v g.stands g.high) q
        where
          made : v.left ≡ 0 → t ≡ instance_token place v.at → Goes (P.Inside place v) (P.Between v.at) n last k marks numbers sheet' table
          made e r =
              let z : n + 0 ≡ n = omega arith in
              let u = instance_of g.instance place v.at in (
                (record {
                  done = g.done ++ (own u g.held ∷ []);
                  kept = kept_ended level first sheet₀ table₀ g.done (instance_of g.instance place g.so_far) u t g.held n k last marks numbers sheet table sheet' g.kept g.number refl (sym (ap (words_at level) r)) c;
                  rest =
                      g.rest ∙ ap (λ (y : Answer (List Entry)). y then after_values g.done g.instance place g.held n) (values_none s inner n v.table v.at v.left e)
                      ∙ ap (λ (l : List Entry). prepended (g.done ++ (own u l ∷ [])) (nest_at s inner end f (n + 0) v.at)) (append-nil g.held)
                      ∙ ap (λ (m : ℕ). prepended (g.done ++ (own u g.held ∷ [])) (nest_at s inner end f m v.at)) z;
                  low = g.low;
                  high = g.high;
                }),
                omega (arith, g.after, g.high),
              )

          by_next : (x : Result (Maybe ValueNext)) → NextIs s v x → value_event left place v x ≡ E.Ended to t → Goes (P.Inside place v) to n last k marks numbers sheet' table
          by_next (gives (just x)) e q = by_code (eqb x.value.code bin_xml) (eqb left 0) q
            where
              by_code : (a b : Bool)
                  → pick a (pick b (E.Refused (refusal_of ninth_level x.value.start)) (E.Body (P.Inside place x.rest) x.value.start x.size)) (E.Moved (P.Inside place x.rest)) ≡ E.Ended to t
                  → Goes (P.Inside place v) to n last k marks numbers sheet' table
              by_code true true q = differs (E.Refused (refusal_of ninth_level x.value.start)) (E.Ended to t) q (λ z. omega arith)
              by_code true false q = differs (E.Body (P.Inside place x.rest) x.value.start x.size) (E.Ended to t) q (λ z. omega arith)
              by_code false b q = differs (E.Moved (P.Inside place x.rest)) (E.Ended to t) q (λ z. omega arith)
          by_next (gives nothing) e q =
              let r : instance_token place v.at ≡ t = cc in
              let w : P.Between v.at ≡ to = cc in
              subst (λ (z : Place). Goes (P.Inside place v) z n last k marks numbers sheet' table) w (made e (sym r))
          by_next (refuses j p) e q = differs (E.Refused (refusal_of j p)) (E.Ended to t) q (λ z. omega arith)
