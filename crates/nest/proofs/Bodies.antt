-- The event of a body in a value: where the body's walk starts, and how the walk goes on after a value, with what its body holds.
-- Assumes nothing.
use mathlib.Core.Path.{◌≡◌, refl, sym, ap, subst, ◌∙◌}
use mathlib.Core.Bool.{Bool, true, false}
use mathlib.Core.List.{List, [], ◌∷◌, ◌++◌, append-nil, append_assoc}
use Prim.Native.Nat.{ℕ, ◌+◌, ◌-◌, ◌*◌, ◌≤◌, ◌<◌}
use native.Mathlib.Omega.{arith}
use borrow.Author.Tests.{eqb-false}
use lib.Dec.{eqb}
use lib.ListN.{length, take, length-append}
use lib.Seq.{sets}
use Rattle.cursor.specs.Answer.{Answer, given, refused, Result, gives, refuses, ◌then◌, pick, Maybe, just, nothing}
use Rattle.cursor.specs.Reads.{number_of}
use Rattle.tokens.specs.Instance.{ValueNext, values_of, next_of}
use Rattle.tokens.specs.Sight.{Seen, begun, met, sight_at}
use Rattle.tokens.specs.Walk.{handed, header, over}
use Rattle.tokens.specs.declared.Flags.{Flags}
use Rattle.tokens.specs.declared.Instance.{Instance}
use Rattle.tokens.specs.declared.Values.{Values}
use Rattle.nest.specs.Going as going
use Rattle.nest.specs.Going.{Kept, instance_of}
use Rattle.nest.specs.Nested.{bin_xml, ninth_level, Entry, Own, own, Inner, held_in, values_from, nest_at, sheet_of, owners_of}
use Rattle.nest.specs.Pieces.{full, refusal_of, instance_token, token_event, seen_event, value_event, event_at}
use Rattle.nest.specs.declared.inner.Event.TheVariants as E
use Rattle.nest.specs.declared.inner.Place.{Place}
use Rattle.nest.specs.declared.inner.Place.TheVariants as P
use Rattle.nest.proofs.Nesting.{prepended, values_held, values_refused_in}
use Rattle.nest.proofs.Values.{NextIs, next_is, value_spans}
use Rattle.nest.proofs.Events.{differs, body_parts}
use Rattle.nest.proofs.Kept.{kept_body}
use Rattle.nest.proofs.Standing as standing

module _ (level first : ℕ) (sheet₀ table₀ : List ℕ) where
  module _ (s : List ℕ) (inner : Inner) (end : ℕ) (f : Flags) (whole : Answer (List Own)) where
    abbrev Among : ℕ → Values → ℕ → ℕ → ℕ → List ℕ → List ℕ → List ℕ → List ℕ → Type 0
    Among place v n at k marks numbers sheet table = going.Among level first sheet₀ table₀ s inner end f whole place v n at k marks numbers sheet table

    abbrev Stands : Place → ℕ → ℕ → ℕ → List ℕ → List ℕ → List ℕ → List ℕ → Type 0
    Stands place n last k marks numbers sheet table = standing.Stands level first sheet₀ table₀ s inner end f whole place n last k marks numbers sheet table

    abbrev left_of : Place → ℕ
    left_of place = standing.left_of level first sheet₀ table₀ s inner end f whole place

    abbrev Goes : Place → Place → ℕ → ℕ → ℕ → List ℕ → List ℕ → List ℕ → List ℕ → Type 0
    Goes place to n last k marks numbers sheet table = standing.Goes level first sheet₀ table₀ s inner end f whole place to n last k marks numbers sheet table

    abbrev after_values : List Own → Instance → ℕ → List Entry → ℕ → List Entry → ℕ → Answer (List Own)
    after_values d i place c n l last = standing.after_values level first sheet₀ table₀ s inner end f whole d i place c n l last

    module _ (small : length s ≤ 65536) (n last k : ℕ) (marks numbers sheet table : List ℕ) (left : ℕ) (room : Bool) where
      -- the values that are left after one, with what its body holds
      after_held : (d : List Own) (i : Instance) (place : ℕ) (c l : List Entry) (m : ℕ) (y : Answer (List Entry))
          → (y then (λ r last. given (l ++ r) last) then after_values d i place c m) ≡ (y then after_values d i place (c ++ l) (m + length l))
      after_held d i place c l m (given r at) =
          let e : m + length (l ++ r) ≡ m + length l + length r = omega (arith, length-append l r) in
          ap (λ (z : ℕ). prepended (d ++ (own (instance_of i place at) (c ++ (l ++ r)) ∷ [])) (nest_at s inner end f z at)) e
          ∙ ap (λ (z : List Entry). prepended (d ++ (own (instance_of i place at) z ∷ [])) (nest_at s inner end f (m + length l + length r) at)) (sym (append_assoc c l r))
      after_held d i place c l m (refused j p) = refl

      module _ (place : ℕ) (v : Values) (g : Among place v n last k marks numbers sheet table) (x : ValueNext) (e : NextIs s v (gives (just x))) where
        spans : (x.value.start ≡ v.at) × (v.at + number_of s v.table 2 ≤ x.rest.at) × (x.rest.at ≤ length s)
        spans = value_spans s v.table v.at x.value x.rest.at g.high e.1

        rest_is : (l : List Entry) → held_in inner (eqb x.value.code bin_xml) n x.value.start (number_of s v.table 2) ≡ gives l
            → whole ≡ (values_from s inner (n + length l) x.rest.table x.rest.at x.rest.left then after_values g.done g.instance place (g.held ++ l) (n + length l))
        rest_is l h =
            g.rest
            ∙ ap (λ (y : Answer (List Entry)). y then after_values g.done g.instance place g.held n) (values_held s inner n v.table v.at v.left x.value x.rest.at l e.0 e.1 h)
            ∙ after_held g.done g.instance place g.held l n (values_from s inner (n + length l) (v.table + 4) x.rest.at (v.left - 1))
            ∙ ap (λ (z : ℕ). values_from s inner (n + length l) z x.rest.at (v.left - 1) then after_values g.done g.instance place (g.held ++ l) (n + length l)) (sym e.3)
            ∙ ap (λ (z : ℕ). values_from s inner (n + length l) x.rest.table x.rest.at z then after_values g.done g.instance place (g.held ++ l) (n + length l)) (sym e.4)

        next_held : (l : List Entry) (m : ℕ) (marks' numbers' sheet' table' : List ℕ)
            → held_in inner (eqb x.value.code bin_xml) n x.value.start (number_of s v.table 2) ≡ gives l → m ≡ n + length l → m ≤ x.rest.at
            → Kept level first sheet₀ table₀ (g.done ++ (own (instance_of g.instance place g.so_far) (g.held ++ l) ∷ [])) m k marks' numbers' sheet' table'
            → Among place x.rest m last k marks' numbers' sheet' table'
        next_held l m marks' numbers' sheet' table' h c b y =
            record {
              done = g.done;
              instance = g.instance;
              so_far = g.so_far;
              held = g.held ++ l;
              kept = y;
              number = g.number;
              rest =
                  rest_is l h
                  ∙ ap (λ (z : ℕ). values_from s inner z x.rest.table x.rest.at x.rest.left then after_values g.done g.instance place (g.held ++ l) z) (sym c);
              low = b;
              high = spans.2;
              stands = omega (arith, e.0, e.3, e.4, g.stands);
              after = omega (arith, g.after, spans.1);
            }

        pub held_none : eqb x.value.code bin_xml ≡ false → Among place x.rest n last k marks numbers sheet table
        held_none q =
            next_held [] n marks numbers sheet table (ap (λ (b : Bool). held_in inner b n x.value.start (number_of s v.table 2)) q) (omega arith) (omega (arith, g.low, spans.1))
            (subst (λ (z : List Entry). Kept level first sheet₀ table₀ (g.done ++ (own (instance_of g.instance place g.so_far) z ∷ [])) n k marks numbers sheet table) (sym (append-nil g.held)) g.kept)

        pub held_body : (l : List Entry) (m : ℕ) (marks' numbers' sheet' table' : List ℕ) → eqb x.value.code bin_xml ≡ true
            → inner n x.value.start x.size ≡ gives l → m ≡ n + length l → m ≤ x.value.start + x.size → take k marks' ≡ take k marks
            → take k numbers' ≡ take k numbers → sheet' ≡ sets sheet (n * 2) (sheet_of l) → table' ≡ sets table n (owners_of l)
            → Among place x.rest m last k marks' numbers' sheet' table'
        held_body l m marks' numbers' sheet' table' q h c b a1 a2 a3 a4 =
            next_held l m marks' numbers' sheet' table'
            (ap (λ (b : Bool). held_in inner b n x.value.start (number_of s v.table 2)) q ∙ ap (inner n x.value.start) (sym e.2) ∙ h) c
            (omega (arith, b, e.2, spans.0, spans.1))
            (kept_body level first sheet₀ table₀ g.done (instance_of g.instance place g.so_far) g.held l n m k marks numbers sheet table marks' numbers' sheet' table' g.kept c a1 a2 a3 a4)

        pub held_refused : (j p : ℕ) → eqb x.value.code bin_xml ≡ true → inner n x.value.start x.size ≡ refuses j p → whole ≡ refused j p
        held_refused j p q h =
            g.rest
            ∙ ap (λ (y : Answer (List Entry)). y then after_values g.done g.instance place g.held n)
            (values_refused_in s inner n v.table v.at v.left x.value x.rest.at j p e.0 e.1
            (ap (λ (b : Bool). held_in inner b n x.value.start (number_of s v.table 2)) q ∙ ap (inner n x.value.start) (sym e.2) ∙ h))

        pub less_held : left_of (P.Inside place x.rest) < left_of (P.Inside place v)
        less_held = omega (arith, e.0, e.4)

      -- a body in a value
      pub record Holding (place to : Place) (at size : ℕ) : Type 0 where
        pub instance : ℕ
        pub values : Values
        pub next : ValueNext
        pub stood : place ≡ P.Inside instance values
        pub among : Among instance values n last k marks numbers sheet table
        pub is : NextIs s values (gives (just next))
        pub starts : next.value.start ≡ at
        pub sized : next.size ≡ size
        pub onto : to ≡ P.Inside instance next.rest
        pub coded : eqb next.value.code bin_xml ≡ true
        pub levels : 0 < left

      pub on_body : (place to : Place) (at size : ℕ) → Stands place n last k marks numbers sheet table → event_at s end f left room place ≡ E.Body to at size
          → Holding place to at size
      on_body (P.Between from) to at size g q = by_seen (sight_at s end f from) q
        where
          by_seen : (x : Answer Seen) → seen_event room from x ≡ E.Body to at size → Holding (P.Between from) to at size
          by_seen (given (begun i) next) q = by_room room q
            where
              by_room : (r : Bool) → token_event r (instance_token from next) (P.Inside from (values_of i)) ≡ E.Body to at size → Holding (P.Between from) to at size
              by_room true q = differs (E.Token (P.Inside from (values_of i)) (instance_token from next)) (E.Body to at size) q (λ z. omega arith)
              by_room false q = differs (E.Refused (refusal_of full 0)) (E.Body to at size) q (λ z. omega arith)
          by_seen (given (met (handed u)) next) q = by_room room q
            where
              by_room : (r : Bool) → token_event r u (P.Between next) ≡ E.Body to at size → Holding (P.Between from) to at size
              by_room true q = differs (E.Token (P.Between next) u) (E.Body to at size) q (λ z. omega arith)
              by_room false q = differs (E.Refused (refusal_of full 0)) (E.Body to at size) q (λ z. omega arith)
          by_seen (given (met header) next) q = differs (E.Moved (P.Between next)) (E.Body to at size) q (λ z. omega arith)
          by_seen (given (met over) next) q = differs (E.Over (P.Between next)) (E.Body to at size) q (λ z. omega arith)
          by_seen (refused j p) q = differs (E.Refused (refusal_of j p)) (E.Body to at size) q (λ z. omega arith)
      on_body (P.Inside place v) to at size g q = by_next (next_of s v) (next_is s v g.stands g.high) q
        where
          by_next : (x : Result (Maybe ValueNext)) → NextIs s v x → value_event left place v x ≡ E.Body to at size → Holding (P.Inside place v) to at size
          by_next (gives (just x)) e q = by_code (eqb x.value.code bin_xml) refl (eqb left 0) refl q
            where
              by_code : (a : Bool) → eqb x.value.code bin_xml ≡ a → (b : Bool) → eqb left 0 ≡ b
                  → pick a (pick b (E.Refused (refusal_of ninth_level x.value.start)) (E.Body (P.Inside place x.rest) x.value.start x.size)) (E.Moved (P.Inside place x.rest)) ≡ E.Body to at size
                  → Holding (P.Inside place v) to at size
              by_code true c true d q = differs (E.Refused (refusal_of ninth_level x.value.start)) (E.Body to at size) q (λ z. omega arith)
              by_code true c false d q =
                  let z = body_parts x.value.start at x.size size (P.Inside place x.rest) to q in
                  record {
                    instance = place;
                    values = v;
                    next = x;
                    stood = refl;
                    among = g;
                    is = e;
                    starts = z.0;
                    sized = z.1;
                    onto = sym z.2;
                    coded = c;
                    levels = omega (arith, eqb-false left 0 d);
                  }
              by_code false c b d q = differs (E.Moved (P.Inside place x.rest)) (E.Body to at size) q (λ z. omega arith)
          by_next (gives nothing) e q = differs (E.Ended (P.Between v.at) (instance_token place v.at)) (E.Body to at size) q (λ z. omega arith)
          by_next (refuses j p) e q = differs (E.Refused (refusal_of j p)) (E.Body to at size) q (λ z. omega arith)

      module _ (place to : Place) (at size : ℕ) (h : Holding place to at size) where
        -- where its walk starts
        pub body_starts : (n ≤ at) × (at ≤ length s) × (at + size ≤ length s)
        body_starts =
            let z = value_spans s h.values.table h.values.at h.next.value h.next.rest.at h.among.high h.is.1 in
            (omega (arith, h.among.low, z.0, h.starts), omega (arith, h.among.high, z.0, h.starts), omega (arith, z.0, z.1, z.2, h.starts, h.sized, h.is.2))

        pub body_read : (l : List Entry) (m : ℕ) (marks' numbers' sheet' table' : List ℕ) → inner n at size ≡ gives l → m ≡ n + length l → m ≤ at + size
            → take k marks' ≡ take k marks → take k numbers' ≡ take k numbers → sheet' ≡ sets sheet (n * 2) (sheet_of l) → table' ≡ sets table n (owners_of l)
            → Goes place to m last k marks' numbers' sheet' table'
        body_read l m marks' numbers' sheet' table' q c b a1 a2 a3 a4 =
            let x = h.next in
            let e : inner n x.value.start x.size ≡ gives l =
            ap (λ (y : ℕ). inner n y x.size) h.starts ∙ ap (inner n at) h.sized ∙ q in
            let g =
            held_body h.instance h.values h.among x h.is l m marks' numbers' sheet' table' h.coded e c (omega (arith, b, h.starts, h.sized)) a1 a2 a3 a4 in
            subst (λ (z : Place). Goes z to m last k marks' numbers' sheet' table') (sym h.stood)
            (subst (λ (z : Place). Goes (P.Inside h.instance h.values) z m last k marks' numbers' sheet' table') (sym h.onto)
            (g, less_held h.instance h.values h.among x h.is))

        pub body_refused : (j p : ℕ) → inner n at size ≡ refuses j p → whole ≡ refused j p
        body_refused j p q =
            let x = h.next in
            held_refused h.instance h.values h.among x h.is j p h.coded (ap (λ (y : ℕ). inner n y x.size) h.starts ∙ ap (inner n at) h.sized ∙ q)
