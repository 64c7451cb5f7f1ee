-- The events of the walk's end and of a refusal: the whole is what was noted, or it is refused, or the stacks are full. Assumes nothing.
use mathlib.Core.Path.{◌≡◌, refl, sym, ap, ◌∙◌}
use mathlib.Core.Bool.{Bool, true, false}
use mathlib.Core.List.{List, [], append-nil}
use mathlib.Core.Logic.{◌⊎◌, inl, inr}
use Prim.Native.Nat.{ℕ, ◌≤◌, ◌<◌}
use native.Mathlib.Omega.{arith}
use borrow.Author.Tests.{eqb-true}
use lib.Dec.{eqb}
use lib.ListN.{length}
use Rattle.cursor.specs.Answer.{Answer, given, refused, Result, gives, refuses, ◌then◌, pick, Maybe, just, nothing}
use Rattle.cursor.specs.declared.Refusal.{Refusal}
use Rattle.tokens.specs.Instance.{ValueNext, values_of, next_of}
use Rattle.tokens.specs.Sight.{Seen, begun, met, sight_at}
use Rattle.tokens.specs.Walk.{handed, header, over}
use Rattle.tokens.specs.declared.Flags.{Flags}
use Rattle.tokens.specs.declared.Instance.{Instance}
use Rattle.tokens.proofs.Sights.{Sees, sight_sees}
use Rattle.nest.specs.Going.{Kept}
use Rattle.nest.specs.Nested.{bin_xml, ninth_level, Entry, Own, Inner}
use Rattle.nest.specs.Pieces.{full, refusal_of, last_of, instance_token, token_event, seen_event, value_event, event_at}
use Rattle.nest.specs.declared.inner.Event.TheVariants as E
use Rattle.nest.specs.declared.inner.Place.{Place}
use Rattle.nest.specs.declared.inner.Place.TheVariants as P
use Rattle.nest.proofs.Nesting.{prepended, nest_over, nest_refused, values_refused}
use Rattle.nest.proofs.Values.{NextIs, next_is}
use Rattle.nest.proofs.Events.{differs}
use Rattle.nest.proofs.Standing as standing
use Rattle.nest.proofs.Bodies.{held_refused}

module _ (level first : ℕ) (sheet₀ table₀ : List ℕ) where
  module _ (s : List ℕ) (inner : Inner) (end : ℕ) (f : Flags) (whole : Answer (List Own)) where
    abbrev Stands : Place → ℕ → ℕ → ℕ → List ℕ → List ℕ → List ℕ → List ℕ → Type 0
    Stands place n last k marks numbers sheet table = standing.Stands level first sheet₀ table₀ s inner end f whole place n last k marks numbers sheet table

    abbrev after_values : List Own → Instance → ℕ → List Entry → ℕ → List Entry → ℕ → Answer (List Own)
    after_values d i place c n l last = standing.after_values level first sheet₀ table₀ s inner end f whole d i place c n l last

    module _ (small : length s ≤ 65536) (n last k : ℕ) (marks numbers sheet table : List ℕ) (left : ℕ) (room : Bool) where
      -- the walk's end
      pub record Ended (at : ℕ) : Type 0 where
        pub done : List Own
        pub kept : Kept level first sheet₀ table₀ done n k marks numbers sheet table
        pub read : whole ≡ given done at
        pub low : n ≤ at
        pub short : n ≤ length s

      ended_is : (d : List Own) (at : ℕ) → prepended d (given [] at) ≡ given d at
      ended_is d at = ap (λ (l : List Own). given l at) (append-nil d)

      pub on_over : (place to : Place) → Stands place n last k marks numbers sheet table → event_at s end f left room place ≡ E.Over to → Ended (last_of to)
      on_over (P.Between from) to g q = by_seen (sight_at s end f from) refl (sight_sees s end f from) q
        where
          by_seen : (x : Answer Seen) → sight_at s end f from ≡ x → Sees from (length s) x → seen_event room from x ≡ E.Over to → Ended (last_of to)
          by_seen (given (begun i) next) e h q = by_room room q
            where
              by_room : (r : Bool) → token_event r (instance_token from next) (P.Inside from (values_of i)) ≡ E.Over to → Ended (last_of to)
              by_room true q = differs (E.Token (P.Inside from (values_of i)) (instance_token from next)) (E.Over to) q (λ z. omega arith)
              by_room false q = differs (E.Refused (refusal_of full 0)) (E.Over to) q (λ z. omega arith)
          by_seen (given (met (handed u)) next) e h q = by_room room q
            where
              by_room : (r : Bool) → token_event r u (P.Between next) ≡ E.Over to → Ended (last_of to)
              by_room true q = differs (E.Token (P.Between next) u) (E.Over to) q (λ z. omega arith)
              by_room false q = differs (E.Refused (refusal_of full 0)) (E.Over to) q (λ z. omega arith)
          by_seen (given (met header) next) e h q = differs (E.Moved (P.Between next)) (E.Over to) q (λ z. omega arith)
          by_seen (given (met over) next) e h q =
              let w : P.Between next ≡ to = cc in
              let r : next ≡ last_of to = ap last_of w in
              record {
                done = g.done;
                kept = g.kept;
                read = g.rest ∙ ap (prepended g.done) (nest_over s inner end f n from next e) ∙ ended_is g.done next ∙ ap (given g.done) r;
                low = omega (arith, g.low, h, r);
                short = omega (arith, g.low, g.high);
              }
          by_seen (refused j p) e h q = differs (E.Refused (refusal_of j p)) (E.Over to) q (λ z. omega arith)
      on_over (P.Inside place v) to g q = by_next (next_of s v) q
        where
          by_next : (x : Result (Maybe ValueNext)) → value_event left place v x ≡ E.Over to → Ended (last_of to)
          by_next (gives (just x)) q = by_code (eqb x.value.code bin_xml) (eqb left 0) q
            where
              by_code : (a b : Bool)
                  → pick a (pick b (E.Refused (refusal_of ninth_level x.value.start)) (E.Body (P.Inside place x.rest) x.value.start x.size)) (E.Moved (P.Inside place x.rest)) ≡ E.Over to
                  → Ended (last_of to)
              by_code true true q = differs (E.Refused (refusal_of ninth_level x.value.start)) (E.Over to) q (λ z. omega arith)
              by_code true false q = differs (E.Body (P.Inside place x.rest) x.value.start x.size) (E.Over to) q (λ z. omega arith)
              by_code false b q = differs (E.Moved (P.Inside place x.rest)) (E.Over to) q (λ z. omega arith)
          by_next (gives nothing) q = differs (E.Ended (P.Between v.at) (instance_token place v.at)) (E.Over to) q (λ z. omega arith)
          by_next (refuses j p) q = differs (E.Refused (refusal_of j p)) (E.Over to) q (λ z. omega arith)

      -- a refusal: of the stream, or of stacks that are full where one more token is read
      abbrev pub Refusing : ℕ → ℕ → Type 0
      Refusing number place = ((number ≡ full) × (room ≡ false) × (n < length s)) ⊎ (whole ≡ refused number place)

      pub on_refused : (place : Place) (r : Refusal) → Stands place n last k marks numbers sheet table → (left ≡ 0 → (m v z : ℕ) → inner m v z ≡ refuses ninth_level v)
          → event_at s end f left room place ≡ E.Refused r → Refusing r.number r.place
      on_refused (P.Between at) r g deep q = by_seen (sight_at s end f at) refl (sight_sees s end f at) q
        where
          by_seen : (x : Answer Seen) → sight_at s end f at ≡ x → Sees at (length s) x → seen_event room at x ≡ E.Refused r → Refusing r.number r.place
          by_seen (given (begun i) next) e h q = by_room room refl q
            where
              by_room : (b : Bool) → room ≡ b → token_event b (instance_token at next) (P.Inside at (values_of i)) ≡ E.Refused r → Refusing r.number r.place
              by_room true c q = differs (E.Token (P.Inside at (values_of i)) (instance_token at next)) (E.Refused r) q (λ z. omega arith)
              by_room false c q =
                  let z : refusal_of full 0 ≡ r = cc in
                  inl (ap (λ (y : Refusal). y.number) (sym z), c, omega (arith, g.low, h.0, h.1))
          by_seen (given (met (handed u)) next) e h q = by_room room refl q
            where
              by_room : (b : Bool) → room ≡ b → token_event b u (P.Between next) ≡ E.Refused r → Refusing r.number r.place
              by_room true c q = differs (E.Token (P.Between next) u) (E.Refused r) q (λ z. omega arith)
              by_room false c q =
                  let z : refusal_of full 0 ≡ r = cc in
                  inl (ap (λ (y : Refusal). y.number) (sym z), c, omega (arith, g.low, h.0, h.1))
          by_seen (given (met header) next) e h q = differs (E.Moved (P.Between next)) (E.Refused r) q (λ z. omega arith)
          by_seen (given (met over) next) e h q = differs (E.Over (P.Between next)) (E.Refused r) q (λ z. omega arith)
          by_seen (refused j p) e h q =
              let z : refusal_of j p ≡ r = cc in
              inr (g.rest ∙ ap (prepended g.done) (nest_refused s inner end f n at j p e) ∙ ap (λ (y : Refusal). refused y.number y.place) z)
      on_refused (P.Inside place v) r g deep q = by_next (next_of s v) (next_is s v g.stands g.high) q
        where
          by_next : (x : Result (Maybe ValueNext)) → NextIs s v x → value_event left place v x ≡ E.Refused r → Refusing r.number r.place
          by_next (gives (just x)) e q = by_code (eqb x.value.code bin_xml) refl (eqb left 0) refl q
            where
              by_code : (a : Bool) → eqb x.value.code bin_xml ≡ a → (b : Bool) → eqb left 0 ≡ b
                  → pick a (pick b (E.Refused (refusal_of ninth_level x.value.start)) (E.Body (P.Inside place x.rest) x.value.start x.size)) (E.Moved (P.Inside place x.rest)) ≡ E.Refused r
                  → Refusing r.number r.place
              by_code true c true d q =
                  let z : refusal_of ninth_level x.value.start ≡ r = cc in
                  inr (held_refused level first sheet₀ table₀ s inner end f whole small n last k marks numbers sheet table left room place v g x e ninth_level x.value.start c (deep (eqb-true left 0 d) n x.value.start x.size) ∙ ap (λ (y : Refusal). refused y.number y.place) z)
              by_code true c false d q = differs (E.Body (P.Inside place x.rest) x.value.start x.size) (E.Refused r) q (λ z. omega arith)
              by_code false c b d q = differs (E.Moved (P.Inside place x.rest)) (E.Refused r) q (λ z. omega arith)
          by_next (gives nothing) e q = differs (E.Ended (P.Between v.at) (instance_token place v.at)) (E.Refused r) q (λ z. omega arith)
          by_next (refuses j p) e q =
              let z : refusal_of j p ≡ r = cc in
              inr
              (g.rest
              ∙ ap (λ (y : Answer (List Entry)). y then after_values g.done g.instance place g.held n) (values_refused s inner n v.table v.at v.left j p e.0 e.1)
              ∙ ap (λ (y : Refusal). refused y.number y.place) z)
