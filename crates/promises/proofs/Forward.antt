-- A walk reads forward only: where two chunks have the same header fields and the same bytes from q on, a run of the one from a state that
-- has passed the bytes below q is a run of the other, and its records have the same payloads. Assumes nothing.
use Rattle.std.specs.Prelude.{Some, None, Option}
use Rattle.cursor.specs.declared.Refusal.{Refusal}
use mathlib.Core.Path.{◌≡◌, refl, sym, ap, subst, ◌∙◌}
use mathlib.Core.Bool.{Bool, true, false, ◌&&◌}
use mathlib.Core.List.{List, [], ◌∷◌}
use Prim.Native.Nat.{ℕ, ◌+◌, ◌-◌, ◌≤◌, min}
use native.Mathlib.Omega.{arith}
use borrow.Author.Tests.{ltb-true, ltb-false}
use lib.Dec.{leb, ltb, eqb}
use lib.ListN.{length, take, drop}
use lib.Seq.{drop-drop}
use Rattle.cursor.specs.Answer.{Answer, given, refused, Maybe, just, nothing, ◌then◌, must, pick}
use Rattle.cursor.specs.Reads.{little, starts_with}
use Rattle.cursor.specs.Refusals.{too_few, wrong_magic, size_copy}
use Rattle.record.specs.Chunk.{fields_at}
use Rattle.record.specs.Record.{record_magic, least_size, record_of, judged, plain_at, copied, strict_at, payload_of}
use Rattle.record.specs.declared.Fields.{Fields}
use Rattle.record.specs.declared.Record.{Record}
use Rattle.record.proofs.Within.{inside}
use Rattle.search.specs.Least.{Least}
use Rattle.search.specs.Allowed.{live_end, reads, allowed, is_live, resyncable, carvable}
use Rattle.chunk.specs.Walk.{Choose, Reply, live, carved, refused_with, TurnEnd, answered, going_on, Carves, Resyncs, Turns, Goes, answers, goes_on, Steps, StepsOn, WalkTurn, ReadTurn, carved_at, after_carve, after_refusal, skip_to}
use Rattle.chunk.specs.Listing.{Runs}
use Rattle.chunk.specs.declared.Walk.{Walk}
use Rattle.chunk.proofs.Order.{place_low, low, low_stands, low_place, Past, Onward, onward, Handed}
use Rattle.chunk.proofs.Whole.{step_goes, step_hands}
use Rattle.promises.specs.Damage.{SamePayloads}

-- a plain read by the length and by the bytes from the offset on, and by nothing else
abbrev pub plain_on : ℕ → List ℕ → ℕ → Answer Record
plain_on n d at =
    must (leb (at + 24) n) too_few at then λ _ _.
    must (starts_with d record_magic) wrong_magic at then λ _ _.
    judged n (record_of d at)

pub plain_on_lem : (s : List ℕ) (at : ℕ) → plain_at s at ≡ plain_on (length s) (drop at s) at
unfolding plain_at
plain_on_lem s at = refl

-- two tests that agree from q on have the same least from there
least_from : (f g : ℕ → Bool) (q p : ℕ) → q ≤ p → ((k : ℕ) → q ≤ k → f k ≡ g k) → (x : Option ℕ) → Least f p x → Least g p x
least_from f g q p l h (Some o) m = (m.0, sym (h o (omega (arith, m.0))) ∙ m.1, λ k a b e. m.2 k a b (h k (omega arith) ∙ e))
least_from f g q p l h None m = λ k a e. m k a (h k (omega arith) ∙ e)

-- a state that has passed the bytes below q goes on to such a state
further : (s : List ℕ) (q : ℕ) (w next : Walk) → Past q w → Onward s w next → Past q next
further s q w next o k = record { ordered = k.past.ordered; from_n = omega (arith, o.from_n, k.past.from_n) }

module _ (s t : List ℕ) (q : ℕ) (long : length s ≡ length t) (same : drop q s ≡ drop q t) where
  -- bytes and reads from q on
  drop_same : (k : ℕ) → q ≤ k → drop k s ≡ drop k t
  drop_same k l =
      let e : q + (k - q) ≡ k = omega arith in
      ap (λ (z : ℕ). drop z s) (sym e)
      ∙ sym (drop-drop (k - q) q s)
      ∙ ap (drop (k - q)) same
      ∙ drop-drop (k - q) q t
      ∙ ap (λ (z : ℕ). drop z t) e

  plain_same : (k : ℕ) → q ≤ k → plain_at s k ≡ plain_at t k
  plain_same k l =
      plain_on_lem s k
      ∙ ap (λ (n : ℕ). plain_on n (drop k s) k) long
      ∙ ap (λ (d : List ℕ). plain_on (length t) d k) (drop_same k l)
      ∙ sym (plain_on_lem t k)

  copied_same : (r : Record) (n : ℕ) → q ≤ n - 4 → copied s r n ≡ copied t r n
  copied_same r n l =
      ap (λ (d : List ℕ). must (eqb (little (take 4 d)) r.size) size_copy r.offset then λ _ _. given r n) (drop_same (n - 4) l)

  -- the copy of a record's size stands after its offset
  strict_by : (k : ℕ) (a : Answer Record) → plain_at t k ≡ a → q ≤ k → (a then copied s) ≡ (a then copied t)
  strict_by k (given r n) e l = let i = inside t k r n e in copied_same r n (omega (arith, i.least, i.after))
  strict_by k (refused m c) e l = refl

  strict_same : (k : ℕ) → q ≤ k → strict_at s k ≡ strict_at t k
  unfolding strict_at
  strict_same k l = ap (λ (a : Answer Record). a then copied s) (plain_same k l) ∙ strict_by k (plain_at t k) refl l

  allowed_same : (limit : ℕ) (ask : Record → ℕ → Bool) (k : ℕ) → q ≤ k → allowed s limit ask k ≡ allowed t limit ask k
  allowed_same limit ask k l = ap (λ (a : Answer Record). leb (k + 4) limit && reads ask a) (strict_same k l)

  payload_same : (r : Record) → q ≤ r.offset → payload_of s r ≡ payload_of t r
  unfolding payload_of
  payload_same r l =
      ap (λ (n : ℕ). pick (leb least_size r.size) (pick (leb (r.offset + r.size) n) (take (r.size - least_size) (drop (r.offset + 24) s)) []) []) long
      ∙ ap (λ (d : List ℕ). pick (leb least_size r.size) (pick (leb (r.offset + r.size) (length t)) (take (r.size - least_size) d) []) []) (drop_same (r.offset + 24) (omega arith))

  -- a turn
  carve_same : (w : Walk) → q ≤ w.from → (f : Option ℕ) → Least (carvable s w.to) w.from f → after_carve s w f ≡ after_carve t w f
  carve_same w l (Some o) m = ap (carved_at w) (strict_same o (omega (arith, m.0)))
  carve_same w l None m = refl

  carves_same : (w : Walk) (u : TurnEnd) → q ≤ w.from → Carves s w u → Carves t w u
  carves_same w u l c =
      record {
        found = c.found;
        least = least_from (carvable s w.to) (carvable t w.to) q w.from l (allowed_same w.to (λ r end. leb end w.to)) c.found c.least;
        is = c.is ∙ carve_same w l c.found c.least;
      }

  refusal_same : (w : Walk) (p k c : ℕ) → q ≤ p → (f : Option ℕ) → after_refusal s w p k c f ≡ after_refusal t w p k c f
  refusal_same w p k c l (Some o) = refl
  refusal_same w p k c l None =
      let over = skip_to w p None in
      ap (λ (d : List ℕ). pick (eqb k wrong_magic && starts_with d (0 ∷ 0 ∷ 0 ∷ 0 ∷ [])) (going_on over) (answered (over, just (refused_with k c)))) (drop_same p l)

  module _ (h : Fields) where
    resyncs_same : (w : Walk) (p k c : ℕ) (u : TurnEnd) → q ≤ p → Resyncs s h w p k c u → Resyncs t h w p k c u
    resyncs_same w p k c u l r =
        record {
          found = r.found;
          least = least_from (resyncable s h) (resyncable t h) q (p + 1) (omega arith) (allowed_same (min (live_end h) (h.last + 4)) (is_live h)) r.found r.least;
          is = r.is ∙ refusal_same w p k c l r.found;
        }

    read_same : (w : Walk) (p : ℕ) (u : TurnEnd) (a : Answer Record) → q ≤ p → ReadTurn s h w p a u → ReadTurn t h w p a u
    read_same w p u (given r n) l e = e
    read_same w p u (refused k c) l e = resyncs_same w p k c u l e

    at_same : (w : Walk) (p : ℕ) (u : TurnEnd) (b : Bool) → q ≤ p → Choose b (u ≡ going_on (skip_to w p None)) (ReadTurn s h w p (plain_at s p) u)
        → Choose b (u ≡ going_on (skip_to w p None)) (ReadTurn t h w p (plain_at t p) u)
    at_same w p u true l e = e
    at_same w p u false l e = subst (λ (a : Answer Record). ReadTurn t h w p a u) (plain_same p l) (read_same w p u (plain_at s p) l e)

    walk_same : (w : Walk) (u : TurnEnd) (place : Option ℕ) → q ≤ place_low place → WalkTurn s h w place u → WalkTurn t h w place u
    walk_same w u (Some p) l e = at_same w p u (leb (live_end h) p) l e
    walk_same w u None l e = e

    turn_by : (w : Walk) (u : TurnEnd) (b : Bool) → ltb w.from w.to ≡ b → Past q w → Choose b (Carves s w u) (WalkTurn s h w w.place u)
        → Choose b (Carves t w u) (WalkTurn t h w w.place u)
    turn_by w u true e o c = carves_same w u (omega (arith, o.from_n, low_stands w (ltb-true w.from w.to e))) c
    turn_by w u false e o c = walk_same w u w.place (omega (arith, o.from_n, low_place w (ltb-false w.from w.to e))) c

    turn_same : (w : Walk) (u : TurnEnd) → Past q w → Turns s h w u → Turns t h w u
    turn_same w u o c = turn_by w u (ltb w.from w.to) refl o c

    -- "A call without an answer yet goes on"
    goes_same : (x : Walk × Maybe Reply) {w : Walk} → Past q w → Goes s h x w → Goes t h x w
    goes_same x {w} o (answers c) = answers (turn_same w (answered x) o c)
    goes_same x {w} o (goes_on {next = v} c g) = goes_on (turn_same w (going_on v) o c) (goes_same x (further s q w v o (onward s h w v o.ordered c)) g)

    module _ (n : ℕ) (one : fields_at s ≡ given h n) (other : fields_at t ≡ given h n) where
      step_same : (w : Walk) (x : Walk × Maybe Reply) → Past q w → Steps s w x → Steps t w x
      step_same w x o c = subst (StepsOn t w x) (sym other) (goes_same x o (step_goes s h n w x one c))

      -- an answer leaves a state that has passed the bytes below q, and what it hands out stands at or after q
      past_on : (w v : Walk) (i : Reply) → Past q w → Handed s w v (just i) → q ≤ low v
      past_on w v (live r) o (a, b, c) = omega (arith, o.from_n)
      past_on w v (carved r) o (a, b, c) = omega (arith, o.from_n)
      past_on w v (refused_with number place) o (a, b, c) = omega (arith, o.from_n)

      payload_on : (w v : Walk) (i : Reply) (items : List Reply) → Past q w → Handed s w v (just i) → SamePayloads s t items → SamePayloads s t (i ∷ items)
      unfolding SamePayloads
      payload_on w v (live r) items o (a, b, c) k = (payload_same r (omega (arith, o.from_n)), k)
      payload_on w v (carved r) items o (a, b, c) k = (payload_same r (omega (arith, o.from_n)), k)
      payload_on w v (refused_with number place) items o (a, b, c) k = k

      pub reads_forward : (w : Walk) (items : List Reply) → Past q w → Runs s w items → Runs t w items × SamePayloads s t items
      unfolding Runs SamePayloads
      reads_forward w [] o (v, c) = ((v, step_same w (v, nothing) o c), tt {0})
      reads_forward w (i ∷ items) o (v, (c, r)) =
          let k = step_hands s h n one w (v, just i) o.ordered c in
          let p : Past q v = record { ordered = k.ordered; from_n = past_on w v i o k.handed } in
          let rest = reads_forward v items p r in
          ((v, (step_same w (v, just i) o c, rest.0)), payload_on w v i items o k.handed rest.1)
