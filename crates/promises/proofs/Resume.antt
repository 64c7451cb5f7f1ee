-- After an unreadable record the next live record is the one at its resync offset, or there is none: what stands between is carved or
-- refused. Assumes nothing.
use Rattle.std.specs.Prelude.{Some, None, Option}
use Rattle.cursor.specs.declared.Refusal.{Refusal}
use mathlib.Core.Path.{◌≡◌, refl, sym, ap, subst, ◌∙◌}
use mathlib.Core.Bool.{Bool, true, false}
use mathlib.Core.List.{List, [], ◌∷◌}
use Prim.Native.Nat.{ℕ, ◌+◌, ◌≤◌, ◌<◌}
use native.Mathlib.Omega.{arith}
use borrow.Author.Tests.{leb-true, lt-leb}
use lib.Dec.{leb, ltb}
use lib.ListN.{length, drop}
use Rattle.cursor.specs.Answer.{Answer, given, refused, Maybe, just, nothing, ◌then◌, must, pick}
use Rattle.cursor.specs.Reads.{starts_with}
use Rattle.record.specs.Chunk.{fields_at}
use Rattle.record.specs.Record.{plain_at, strict_at, record_of, record_magic, last_filetime}
use Rattle.record.specs.declared.Fields.{Fields}
use Rattle.record.specs.declared.Record.{Record}
use Rattle.record.proofs.Within.{inside, strict_inside, strict_plain}
use Rattle.search.specs.Least.{Least}
use Rattle.search.specs.Allowed.{live_end, resyncable, is_live}
use Rattle.chunk.specs.Walk.{Choose, Reply, live, carved, refused_with, answered, going_on, Carves, Resyncs, Goes, answers, goes_on, Steps, WalkTurn, ReadTurn, carved_at, after_carve, after_refusal, skip_to, silent}
use Rattle.chunk.specs.Listing.{Runs}
use Rattle.chunk.specs.Whole.{first_live}
use Rattle.chunk.specs.declared.Walk.{Walk}
use Rattle.search.proofs.Leasts.{one}
use Rattle.search.proofs.Magics.{and_true}
use Rattle.search.proofs.Suited.{reads_given}
use Rattle.chunk.proofs.Phases.{answers_not, carve_next, walk_next}
use Rattle.chunk.proofs.Order.{answered_is, told}
use Rattle.chunk.proofs.Whole.{step_goes}
use Rattle.promises.specs.Resume.{NextAt, NextLive}

-- a record's refusal stands at its offset
failed : {A : Type 0} (b : Bool) (k p m c : ℕ) (f : Unit → ℕ → Answer A) → (f tt p ≡ refused m c → c ≡ p) → (must b k p then f) ≡ refused m c → c ≡ p
failed true k p m c f g e = g e
failed false k p m c f g e = cc

refused_at : (s : List ℕ) (p k c : ℕ) → plain_at s p ≡ refused k c → c ≡ p
unfolding plain_at
refused_at s p k c e =
    let x = record_of (drop p s) p in
    failed (leb (p + 24) (length s)) 3 p k c _
    (failed (starts_with (drop p s) record_magic) 4 p k c _
    (failed (leb x.time last_filetime) 6 p k c _
    (failed (leb 28 x.size) 5 p k c _
    (failed (leb (p + x.size) (length s)) 3 p k c _
    (λ f. let z : ◌≡◌ {A = ℕ} 0 1 = cc in absurd (omega arith))))))
    e

abbrev stands_at : Option ℕ → Option ℕ
stands_at (Some q) = Some q
stands_at None = None

skip_place : (w : Walk) (p : ℕ) (f : Option ℕ) → (skip_to w p f).place ≡ stands_at f
skip_place w p (Some q) = refl
skip_place w p None = refl

-- where a refusal leaves the walk, which had come to a state: set to the resync offset of the refusal's place, or over
pub record Left (s : List ℕ) (h : Fields) (next : Walk) (place : ℕ) : Type 0 where
  pub came : Walk
  pub found : Option ℕ
  pub least : Least (resyncable s h) (place + 1) found
  pub is : next ≡ skip_to came place found

-- an answer that is no refusal
abbrev NoRefusal : Maybe Reply → Type 0
NoRefusal (just (refused_with number place)) = ⊥
NoRefusal (just (live r)) = Unit {0}
NoRefusal (just (carved r)) = Unit {0}
NoRefusal nothing = Unit {0}

module _ (s : List ℕ) (h : Fields) (x : Walk × Maybe Reply) (number place : ℕ) (is : x.1 ≡ just (refused_with number place)) where
  other : (y : Walk × Maybe Reply) → NoRefusal y.1 → x ≡ y → Left s h x.0 place
  other y t e = absurd (subst NoRefusal (ap (λ (z : Walk × Maybe Reply). z.1) (sym e) ∙ is) t)

  refusal_left : (w : Walk) (p k c : ℕ) → plain_at s p ≡ refused k c → Resyncs s h w p k c (answered x) → Left s h x.0 place
  refusal_left w p k c e t =
      let y = told x (silent s p k t.found) _ _ _ t.is in
      let z : just (refused_with number place) ≡ just (refused_with k c) = sym is ∙ ap (λ (v : Walk × Maybe Reply). v.1) y in
      let a : place ≡ c = cc in
      let b : place ≡ p = a ∙ refused_at s p k c e in
      record {
        came = w;
        found = t.found;
        least = subst (λ (v : ℕ). Least (resyncable s h) (v + 1) t.found) (sym b) t.least;
        is = ap (λ (v : Walk × Maybe Reply). v.0) y ∙ ap (λ (v : ℕ). skip_to w v t.found) (sym b);
      }

  read_left : (w : Walk) (p : ℕ) (a : Answer Record) → plain_at s p ≡ a → ReadTurn s h w p a (answered x) → Left s h x.0 place
  read_left w p (given k n) e t = other _ (tt {0}) (answered_is x _ t)
  read_left w p (refused k c) e t = refusal_left w p k c e t

  at_left : (w : Walk) (p : ℕ) (b : Bool)
      → Choose b (answered x ≡ going_on (skip_to w p None)) (ReadTurn s h w p (plain_at s p) (answered x)) → Left s h x.0 place
  at_left w p true t = absurd (answers_not _ x (sym t))
  at_left w p false t = read_left w p (plain_at s p) refl t

  walk_left : (w : Walk) (here : Option ℕ) → WalkTurn s h w here (answered x) → Left s h x.0 place
  walk_left w (Some p) t = at_left w p (leb (live_end h) p) t
  walk_left w None t = other _ (tt {0}) (answered_is x _ t)

  carved_left : (w : Walk) (a : Answer Record) → answered x ≡ carved_at w a → Left s h x.0 place
  carved_left w (given k n) t = other _ (tt {0}) (answered_is x _ t)
  carved_left w (refused k c) t = absurd (answers_not _ x (sym t))

  carve_left : (w : Walk) (f : Option ℕ) → answered x ≡ after_carve s w f → Left s h x.0 place
  carve_left w (Some o) t = carved_left w (strict_at s o) t
  carve_left w None t = absurd (answers_not _ x (sym t))

  turn_left : (w : Walk) (b : Bool) → Choose b (Carves s w (answered x)) (WalkTurn s h w w.place (answered x)) → Left s h x.0 place
  turn_left w true t = carve_left w t.found t.is
  turn_left w false t = walk_left w w.place t

  pub goes_left : {w : Walk} → Goes s h x w → Left s h x.0 place
  goes_left {w} (answers t) = turn_left w (ltb w.from w.to) t
  goes_left {w} (goes_on t g) = goes_left g

-- what an answer says of the next live record: it is that one, it is still to come, or there is none
abbrev Told : List ℕ → Fields → Option ℕ → Walk → Maybe Reply → Type 0
Told s h next w (just (live r)) = next ≡ Some r.offset
Told s h next w (just (carved r)) = NextLive s h w.place next
Told s h next w (just (refused_with number place)) = NextLive s h w.place next
Told s h next w nothing = next ≡ None

-- at the resync offset a record can be read, below live end
found_next : (s : List ℕ) (h : Fields) (p : ℕ) (next : Option ℕ) → Least (resyncable s h) (p + 1) next → NextLive s h (stands_at next) next
found_next s h p None least = refl
found_next s h p (Some q) least =
    let a = and_true (leb (q + 4) _) _ least.1 in
    let b = reads_given (is_live h) (strict_at s q) a.1 in
    let i = strict_inside s q b.0 b.1.0 b.1.1.0 in
    let e = strict_plain s q b.0 b.1.0 b.1.1.0 in
    let c = and_true (leb b.1.0 (live_end h)) _ b.1.1.1 in
    let l = leb-true b.1.0 (live_end h) c.0 in
    rw (lt-leb (live_end h) q (omega (arith, i.least, i.after))) (subst (NextAt s h q (Some q)) (sym e) refl)

-- a turn that answers
module _ (s : List ℕ) (h : Fields) (next : Option ℕ) (x : Walk × Maybe Reply) (w : Walk) where
  told_by_lem : (y : Walk × Maybe Reply) → x ≡ y → Told s h next y.0 y.1 → Told s h next x.0 x.1
  told_by_lem y e t = subst (λ (z : Walk × Maybe Reply). Told s h next z.0 z.1) (sym e) t

  carved_told : (a : Answer Record) → NextLive s h w.place next → answered x ≡ carved_at w a → Told s h next x.0 x.1
  carved_told (given k m) n e = told_by_lem _ (answered_is x _ e) n
  carved_told (refused k c) n e = absurd (answers_not _ x (sym e))

  carve_told : (f : Option ℕ) → NextLive s h w.place next → answered x ≡ after_carve s w f → Told s h next x.0 x.1
  carve_told (Some o) n e = carved_told (strict_at s o) n e
  carve_told None n e = absurd (answers_not _ x (sym e))

  read_told : (p : ℕ) (a : Answer Record) → plain_at s p ≡ a → NextAt s h p next a → ReadTurn s h w p a (answered x) → Told s h next x.0 x.1
  read_told p (given r m) e n t = told_by_lem _ (answered_is x _ t) (n ∙ ap Some (sym (inside s p r m e).same))
  read_told p (refused k c) e n t =
      let f = one (resyncable s h) (p + 1) t.found next t.least n in
      told_by_lem _ (told x (silent s p k t.found) _ _ _ t.is)
      (subst (λ (d : Option ℕ). NextLive s h d next) (sym (skip_place w p t.found ∙ ap stands_at f)) (found_next s h p next n))

  at_told : (p : ℕ) (b : Bool) → Choose b (next ≡ None) (NextAt s h p next (plain_at s p))
      → Choose b (answered x ≡ going_on (skip_to w p None)) (ReadTurn s h w p (plain_at s p) (answered x)) → Told s h next x.0 x.1
  at_told p true n t = absurd (answers_not _ x (sym t))
  at_told p false n t = read_told p (plain_at s p) refl n t

  walk_told : (place : Option ℕ) → NextLive s h place next → WalkTurn s h w place (answered x) → Told s h next x.0 x.1
  walk_told (Some p) n t = at_told p (leb (live_end h) p) n t
  walk_told None n t = told_by_lem _ (answered_is x _ t) n

  turn_told : (b : Bool) → NextLive s h w.place next → Choose b (Carves s w (answered x)) (WalkTurn s h w w.place (answered x))
      → Told s h next x.0 x.1
  turn_told true n t = carve_told t.found n t.is
  turn_told false n t = walk_told w.place n t

-- a turn without an answer: a carve range is used up, or the walk ends with no live record to come
module _ (s : List ℕ) (h : Fields) (next : Option ℕ) (w v : Walk) where
  silent_none : (p k c : ℕ) (f : Option ℕ) → going_on v ≡ after_refusal s w p k c f → f ≡ next → next ≡ None
  silent_none p k c (Some q) t e = absurd (answers_not v _ t)
  silent_none p k c None t e = sym e

  read_none : (p : ℕ) (a : Answer Record) → NextAt s h p next a → ReadTurn s h w p a (going_on v) → next ≡ None
  read_none p (given r m) n t = absurd (answers_not v _ t)
  read_none p (refused k c) n t = silent_none p k c t.found t.is (one (resyncable s h) (p + 1) t.found next t.least n)

  at_none : (p : ℕ) (b : Bool) → Choose b (next ≡ None) (NextAt s h p next (plain_at s p))
      → Choose b (going_on v ≡ going_on (skip_to w p None)) (ReadTurn s h w p (plain_at s p) (going_on v)) → next ≡ None
  at_none p true n t = n
  at_none p false n t = read_none p (plain_at s p) n t

  walk_none : (place : Option ℕ) → NextLive s h place next → WalkTurn s h w place (going_on v) → next ≡ None
  walk_none (Some p) n t = at_none p (leb (live_end h) p) n t
  walk_none None n t = n

  turn_on : (b : Bool) → NextLive s h w.place next → Choose b (Carves s w (going_on v)) (WalkTurn s h w w.place (going_on v))
      → NextLive s h v.place next
  turn_on true n t = subst (λ (d : Option ℕ). NextLive s h d next) (sym (ap (λ (z : Walk). z.place) (carve_next w v s t.found t.is))) n
  turn_on false n t =
      let y = walk_next w v s h w.place t in
      subst (λ (d : Option ℕ). NextLive s h d next) (sym (ap (λ (z : Walk). z.place) y.1.1)) (walk_none w.place n t)

goes_told : (s : List ℕ) (h : Fields) (next : Option ℕ) (x : Walk × Maybe Reply) {w : Walk} → NextLive s h w.place next → Goes s h x w
    → Told s h next x.0 x.1
goes_told s h next x {w} n (answers t) = turn_told s h next x w (ltb w.from w.to) n t
goes_told s h next x {w} n (goes_on {next = v} t g) = goes_told s h next x (turn_on s h next w v (ltb w.from w.to) n t) g

module _ (s : List ℕ) (h : Fields) (m : ℕ) (header : fields_at s ≡ given h m) (next : Option ℕ) where
  live_by : (w : Walk) (i : Reply) (items : List Reply) → Told s h next w (just i) → (NextLive s h w.place next → first_live items ≡ next)
      → first_live (i ∷ items) ≡ next
  unfolding first_live
  live_by w (live r) items t go = sym t
  live_by w (carved r) items t go = go t
  live_by w (refused_with number place) items t go = go t

  -- of any run from any state: the first live record is the next one of the place where the walk stands, or there is none
  pub next_live : (w : Walk) (items : List Reply) → NextLive s h w.place next → Runs s w items → first_live items ≡ next
  unfolding Runs first_live
  next_live w [] n (v, t) = sym (goes_told s h next (v, nothing) n (step_goes s h m w (v, nothing) header t))
  next_live w (i ∷ items) n (v, (t, rest)) =
      live_by v i items (goes_told s h next (v, just i) n (step_goes s h m w (v, just i) header t)) (λ go. next_live v items go rest)

-- 'After an unreadable record the walk resumes at the least later offset that document 01 allows, or at none': a walk that stands, below
-- live end, at a record p that cannot be read, whatever is carved first and whether its refusal is answered or not
pub resumes : (s : List ℕ) (h : Fields) (m : ℕ) → fields_at s ≡ given h m → (w : Walk) (p k c : ℕ) (next : Option ℕ) (items : List Reply)
    → w.place ≡ Some p → p < live_end h → plain_at s p ≡ refused k c → Least (resyncable s h) (p + 1) next → Runs s w items
    → first_live items ≡ next
resumes s h m header w p k c next items e l f least r =
    let n : NextLive s h (Some p) next = rw (lt-leb (live_end h) p l) (subst (NextAt s h p next) (sym f) least) in
    next_live s h m header next w items (subst (λ (d : Option ℕ). NextLive s h d next) (sym e) n) r

-- the same after a refusal that was answered, at its place
pub refusal_resumes : (s : List ℕ) (h : Fields) (m : ℕ) → fields_at s ≡ given h m → (w v : Walk) (number place : ℕ) (next : Option ℕ) (items : List Reply)
    → Steps s w (v, just (refused_with number place)) → Least (resyncable s h) (place + 1) next → Runs s v items
    → first_live items ≡ next
refusal_resumes s h m header w v number place next items t least rest =
    let x : Walk × Maybe Reply = (v, just (refused_with number place)) in
    let y = goes_left s h x number place refl (step_goes s h m w x header t) in
    let f = one (resyncable s h) (place + 1) y.found next y.least least in
    let n = found_next s h place next least in
    let at = ap (λ (z : Walk). z.place) y.is ∙ skip_place y.came place y.found ∙ ap stands_at f in
    next_live s h m header next v items (subst (λ (d : Option ℕ). NextLive s h d next) (sym at) n) rest
