-- Damage stays in its range: of two chunks with the same header fields that are damaged at the same offset, resume at the same resync offset
-- and are equal from there on, the walks answer the same after the damage, but for records carved from the range between. Assumes nothing.
use Rattle.std.specs.Prelude.{Some, None, Option}
use mathlib.Core.Path.{◌≡◌, refl, sym, ap, subst, ◌∙◌}
use mathlib.Core.Bool.{Bool, true, false}
use mathlib.Core.List.{List, [], ◌∷◌, ◌++◌}
use Prim.Native.Nat.{ℕ, ◌+◌, ◌≤◌, ◌<◌, min}
use native.Mathlib.Omega.{arith}
use borrow.Author.Tests.{ltb-true}
use lib.Dec.{leb, ltb, eqb}
use lib.ListN.{drop}
use Rattle.cursor.specs.Answer.{Answer, given, refused, gives, Maybe, just, pick}
use Rattle.cursor.proofs.Choice.{either}
use Rattle.record.specs.Chunk.{fields_at}
use Rattle.record.specs.Record.{plain_at, strict_at}
use Rattle.record.specs.declared.Fields.{Fields}
use Rattle.record.specs.declared.Record.{Record}
use Rattle.record.proofs.Within.{headed}
use Rattle.search.specs.Least.{Least}
use Rattle.search.specs.Allowed.{live_end, is_live, resyncable}
use Rattle.search.proofs.Leasts.{one}
use Rattle.search.proofs.Suited.{stands}
use Rattle.chunk.specs.Walk.{Choose, Reply, live, carved, refused_with, start_of, TurnEnd, answered, going_on, Carves, Turns, Goes, answers, goes_on, WalkTurn, ReadTurn, carved_at, after_carve, after_refusal, after_live, skip_to, used_up, silent, found_answer, ResyncOn, ResyncAfter}
use Rattle.chunk.specs.Listing.{Runs}
use Rattle.chunk.specs.declared.Walk.{Walk}
use Rattle.chunk.proofs.Order.{Past, low_place}
use Rattle.chunk.proofs.Whole.{step_goes}
use Rattle.chunk.proofs.Counting.{runs_one}
use Rattle.promises.specs.Damage.{Damaged, CarvedWithin, SamePayloads, without_carved, SameRest}
use Rattle.promises.proofs.Resume.{Left, goes_left}
use Rattle.promises.proofs.Forward.{reads_forward}
use Rattle.promises.proofs.Carving.{carves_first}

-- "Recovery is chosen with the start state and kept in it"; and where it is off and no range stands, the range keeps its numbers
record RangeKept (w v : Walk) : Type 0 where
  mode : v.recover ≡ w.recover
  range : w.recover ≡ false → w.to ≤ w.from → (v.from ≡ w.from) × (v.to ≡ w.to)

keeps_same : (w : Walk) → RangeKept w w
keeps_same w = record { mode = refl; range = λ e l. (refl, refl) }

keeps_on : (w v u : Walk) → RangeKept w v → RangeKept v u → RangeKept w u
keeps_on w v u a b =
    record {
      mode = b.mode ∙ a.mode;
      range = λ e l.
          let x = a.range e l in
          let y = b.range (a.mode ∙ e) (omega (arith, x.0, x.1)) in
          (y.0 ∙ x.0, y.1 ∙ x.1);
    }

-- a turn keeps them
keeps_stands : (w v : Walk) → w.from < w.to → v.recover ≡ w.recover → RangeKept w v
keeps_stands w v l e = record { mode = e; range = λ f k. absurd (omega arith) }

skip_keeps : (w : Walk) (p : ℕ) (f : Option ℕ) → RangeKept w (skip_to w p f)
skip_keeps w p (Some q) =
    record { mode = refl; range = λ e l. (ap (λ (b : Bool). pick b p w.from) e, ap (λ (b : Bool). pick b q w.to) e) }
skip_keeps w p None =
    record { mode = refl; range = λ e l. (ap (λ (b : Bool). pick b p w.from) e, ap (λ (b : Bool). pick b 65536 w.to) e) }

-- the state that a turn leaves
abbrev leaves : TurnEnd → Walk
leaves (answered x) = x.0
leaves (going_on v) = v

module _ (s : List ℕ) (h : Fields) where
  carved_keeps : (w : Walk) → w.from < w.to → (a : Answer Record) → RangeKept w (leaves (carved_at w a))
  carved_keeps w l (given r n) = keeps_stands w _ l refl
  carved_keeps w l (refused k c) = keeps_stands w _ l refl

  carve_keeps : (w : Walk) → w.from < w.to → (f : Option ℕ) → RangeKept w (leaves (after_carve s w f))
  carve_keeps w l (Some o) = carved_keeps w l (strict_at s o)
  carve_keeps w l None = keeps_stands w _ l refl

  live_keeps : (w : Walk) (r : Record) (n : ℕ) → RangeKept w (after_live h w r n)
  live_keeps w r n =
      either (RangeKept w) (eqb r.id h.ids.last) _ _
      (λ e. skip_keeps w n None) (λ e. record { mode = refl; range = λ f l. (refl, refl) })

  refusal_keeps : (w : Walk) (p k c : ℕ) (f : Option ℕ) → RangeKept w (leaves (after_refusal s w p k c f))
  refusal_keeps w p k c f =
      either (λ (u : TurnEnd). RangeKept w (leaves u)) (silent s p k f) _ _ (λ e. skip_keeps w p f) (λ e. skip_keeps w p f)

  read_keeps : (w : Walk) (p : ℕ) (u : TurnEnd) (a : Answer Record) → ReadTurn s h w p a u → RangeKept w (leaves u)
  read_keeps w p u (given r n) e = subst (λ (z : TurnEnd). RangeKept w (leaves z)) (sym e) (live_keeps w r n)
  read_keeps w p u (refused k c) e = subst (λ (z : TurnEnd). RangeKept w (leaves z)) (sym e.is) (refusal_keeps w p k c e.found)

  at_keeps : (w : Walk) (p : ℕ) (u : TurnEnd) (b : Bool) → Choose b (u ≡ going_on (skip_to w p None)) (ReadTurn s h w p (plain_at s p) u) → RangeKept w (leaves u)
  at_keeps w p u true e = subst (λ (z : TurnEnd). RangeKept w (leaves z)) (sym e) (skip_keeps w p None)
  at_keeps w p u false e = read_keeps w p u (plain_at s p) e

  walk_keeps : (w : Walk) (u : TurnEnd) (place : Option ℕ) → WalkTurn s h w place u → RangeKept w (leaves u)
  walk_keeps w u (Some p) e = at_keeps w p u (leb (live_end h) p) e
  walk_keeps w u None e = subst (λ (z : TurnEnd). RangeKept w (leaves z)) (sym e) (keeps_same w)

  turn_by : (w : Walk) (u : TurnEnd) (b : Bool) → ltb w.from w.to ≡ b → Choose b (Carves s w u) (WalkTurn s h w w.place u) → RangeKept w (leaves u)
  turn_by w u true e c =
      subst (λ (z : TurnEnd). RangeKept w (leaves z)) (sym c.is) (carve_keeps w (ltb-true w.from w.to e) c.found)
  turn_by w u false e c = walk_keeps w u w.place c

  turn_keeps : (w : Walk) (u : TurnEnd) → Turns s h w u → RangeKept w (leaves u)
  turn_keeps w u c = turn_by w u (ltb w.from w.to) refl c

  goes_keeps : (x : Walk × Maybe Reply) {w : Walk} → Goes s h x w → RangeKept w x.0
  goes_keeps x {w} (answers c) = turn_keeps w (answered x) c
  goes_keeps x {w} (goes_on {next = v} c g) = keeps_on w v x.0 (turn_keeps w (going_on v) c) (goes_keeps x g)

-- the walk after a refusal at p, with the resync offset q: it stands there, and p to q is left to carve where recovery is on
abbrev restarted : Bool → ℕ → ℕ → Walk
restarted recover p q = record { place = Some q; from = pick recover p 0; to = pick recover q 0; recover = recover }

-- a state by its parts
walk_path : (v : Walk) (place : Option ℕ) (from to : ℕ) (recover : Bool) → v.place ≡ place → v.from ≡ from → v.to ≡ to → v.recover ≡ recover
    → v ≡ record { place = place; from = from; to = to; recover = recover }
walk_path v place from to recover a b c d i = record { place = a i; from = b i; to = c i; recover = d i }

restarts : (recover : Bool) (v w : Walk) (p q : ℕ) → RangeKept (start_of recover) v → v ≡ skip_to w p (Some q) → v ≡ restarted recover p q
restarts true v w p q k e =
    let m : w.recover ≡ true = sym (ap (λ (z : Walk). z.recover) e) ∙ k.mode in
    e ∙ ap (λ (b : Bool). record { place = Some q; from = pick b p w.from; to = pick b q w.to; recover = b }) m
restarts false v w p q k e =
    let r = k.range refl (omega arith) in
    walk_path v (Some q) 0 0 false (ap (λ (z : Walk). z.place) e) r.0 r.1 k.mode

-- the resync offset by itself
module _ (s : List ℕ) (h : Fields) (p q : ℕ) where
  at_q : (f : Option ℕ) → gives (just q) ≡ gives (found_answer f) → Least (resyncable s h) (p + 1) f → Least (resyncable s h) (p + 1) (Some q)
  at_q (Some o) e m = let z : o ≡ q = cc in subst (λ (k : ℕ). Least (resyncable s h) (p + 1) (Some k)) z m
  at_q None e m = let z : ◌≡◌ {A = ℕ} 0 1 = cc in absurd (omega arith)

  resync_least : (n : ℕ) → fields_at s ≡ given h n → ResyncAfter s p (gives (just q)) → Least (resyncable s h) (p + 1) (Some q)
  resync_least n header r = let y = subst (ResyncOn s p (gives (just q))) header r in at_q y.0 y.1.0 y.1.1

-- the run of a walk from its start: after its refusal at p the walk is that of the state above
module _ (s : List ℕ) (h : Fields) (n : ℕ) (header : fields_at s ≡ given h n) (recover : Bool) (p q : ℕ) (least : Least (resyncable s h) (p + 1) (Some q)) where
  from_refusal : (v : Walk) (after : List Reply) → RangeKept (start_of recover) v → Left s h v p → Runs s v after → Runs s (restarted recover p q) after
  from_refusal v after k left r =
      let f = one (resyncable s h) (p + 1) left.found (Some q) left.least least in
      let e = left.is ∙ ap (skip_to left.came p) f in
      subst (λ (z : Walk). Runs s z after) (restarts recover v left.came p q k e) r

  runs_after : (w : Walk) (before : List Reply) (number : ℕ) (after : List Reply) → RangeKept (start_of recover) w
      → Runs s w (before ++ (refused_with number p ∷ after)) → Runs s (restarted recover p q) after
  unfolding Runs
  runs_after w [] number after k (v, (c, r)) =
      let x : Walk × Maybe Reply = (v, just (refused_with number p)) in
      let g = step_goes s h n w x header c in
      from_refusal v after (keeps_on (start_of recover) w v k (goes_keeps s h x g)) (goes_left s h x number p refl g) r
  runs_after w (i ∷ before) number after k (v, (c, r)) =
      let g = step_goes s h n w (v, just i) header c in
      runs_after v before number after (keeps_on (start_of recover) w v k (goes_keeps s h (v, just i) g)) r

-- what follows: carved records within p to q, and then a run from q with no range left
record Tail (s : List ℕ) (recover : Bool) (p q : ℕ) (items : List Reply) : Type 0 where
  first : List Reply
  rest : List Reply
  is : items ≡ first ++ rest
  within : CarvedWithin p q first
  runs : Runs s (used_up (restarted recover p q)) rest

module _ (s : List ℕ) (h : Fields) (n : ℕ) (header : fields_at s ≡ given h n) (p q : ℕ) where
  tail_by : (recover : Bool) (items : List Reply) → p ≤ q → Runs s (restarted recover p q) items → Tail s recover p q items
  unfolding CarvedWithin
  tail_by true items l r =
      let y = carves_first s h n header (restarted true p q) items l r in
      record { first = y.first; rest = y.rest; is = y.is; within = y.within; runs = y.runs }
  tail_by false items l r = record { first = []; rest = items; is = refl; within = tt {0}; runs = r }

  tail_of : (recover : Bool) (items : List Reply) → Damaged s recover p q items → Tail s recover p q items
  tail_of recover items d =
      let least = resync_least s h p q n header d.resync in
      tail_by recover items (omega (arith, least.0))
      (runs_after s h n header recover p q least (start_of recover) d.before d.number items (keeps_same (start_of recover)) d.walk)

-- a state at q with no range left has passed the bytes below q
past_q : (recover : Bool) (p q : ℕ) → q ≤ 65536 → Past q (used_up (restarted recover p q))
past_q recover p q l =
    let w = used_up (restarted recover p q) in
    record { ordered = record { before = λ k. absurd (omega arith); within = l }; from_n = omega (arith, low_place w (omega arith)) }

-- "From there all live records, with their payloads, and all refusals are equal, in the same order. Carved records from the skipped range
-- are excepted": these alone, since the rest has the carved records of later ranges too
pub damage_stays_in_its_range : (s t : List ℕ) (h : Fields) (n : ℕ) (recover : Bool) (p q : ℕ) (one other : List Reply) → fields_at s ≡ given h n → fields_at t ≡ given h n
    → Damaged s recover p q one → Damaged t recover p q other → drop q s ≡ drop q t → SameRest s t p q one other
damage_stays_in_its_range s t h n recover p q one other e f a b same =
    let x = tail_of s h n e p q recover one a in
    let y = tail_of t h n f p q recover other b in
    let w = used_up (restarted recover p q) in
    let long = (headed s h n e).long in
    let least = resync_least s h p q n e a.resync in
    let there = (stands s (min (live_end h) (h.last + 4)) (is_live h) q least.1).there in
    let forward = reads_forward s t q (long ∙ sym (headed t h n f).long) same h n e f w x.rest (past_q recover p q (omega arith)) x.runs in
    let rest = runs_one t w y.rest x.rest y.runs forward.0 in
    record {
      one_carved = x.first;
      other_carved = y.first;
      rest = x.rest;
      one_is = x.is;
      other_is = y.is ∙ ap (λ (l : List Reply). y.first ++ l) rest;
      one_within = x.within;
      other_within = y.within;
      payloads = forward.1;
    }

-- carved records fall away
carved_none : (p q : ℕ) (items rest : List Reply) → CarvedWithin p q items → without_carved (items ++ rest) ≡ without_carved rest
unfolding CarvedWithin without_carved
carved_none p q [] rest k = refl
carved_none p q (carved r ∷ items) rest (a, b, k) = carved_none p q items rest k
carved_none p q (live r ∷ items) rest k = absurd k
carved_none p q (refused_with number place ∷ items) rest k = absurd k

payloads_kept : (s t : List ℕ) (items : List Reply) → SamePayloads s t items → SamePayloads s t (without_carved items)
unfolding SamePayloads without_carved
payloads_kept s t [] k = k
payloads_kept s t (live r ∷ items) (a, k) = (a, payloads_kept s t items k)
payloads_kept s t (carved r ∷ items) (a, k) = payloads_kept s t items k
payloads_kept s t (refused_with number place ∷ items) k = payloads_kept s t items k

-- the same without carved records, as it was asked
pub same_after_damage : (s t : List ℕ) (h : Fields) (n : ℕ) (recover : Bool) (p q : ℕ) (one other : List Reply) → fields_at s ≡ given h n → fields_at t ≡ given h n
    → Damaged s recover p q one → Damaged t recover p q other → drop q s ≡ drop q t
    → (without_carved one ≡ without_carved other) × SamePayloads s t (without_carved one)
same_after_damage s t h n recover p q one other e f a b same =
    let x = damage_stays_in_its_range s t h n recover p q one other e f a b same in
    let i = ap without_carved x.one_is ∙ carved_none p q x.one_carved x.rest x.one_within in
    let j = ap without_carved x.other_is ∙ carved_none p q x.other_carved x.rest x.other_within in
    (i ∙ sym j, subst (SamePayloads s t) (sym i) (payloads_kept s t x.rest x.payloads))
