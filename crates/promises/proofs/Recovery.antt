-- Carving never moves the walk: without recovery a chunk's walk answers what it answers with recovery, less the carved records. Assumes
-- nothing.
use Rattle.std.specs.Prelude.{Some, None, Option}
use mathlib.Core.Path.{◌≡◌, refl, sym, ap, subst, ◌∙◌}
use mathlib.Core.Bool.{Bool, true, false}
use mathlib.Core.List.{List, [], ◌∷◌}
use Prim.Native.Nat.{ℕ}
use lib.Dec.{leb, ltb, eqb}
use Rattle.cursor.specs.Answer.{Answer, given, refused, Maybe, just, nothing, pick}
use Rattle.record.specs.Chunk.{fields_at}
use Rattle.record.specs.Record.{plain_at, strict_at}
use Rattle.record.specs.declared.Fields.{Fields}
use Rattle.record.specs.declared.Record.{Record}
use Rattle.search.specs.Allowed.{live_end}
use Rattle.chunk.specs.Walk.{Choose, Reply, live, carved, refused_with, start_of, TurnEnd, answered, going_on, Carves, Turns, Goes, answers, goes_on, Steps, StepsOn, WalkTurn, ReadTurn, carved_at, after_carve, after_refusal, after_live, skip_to, placed, silent, blank}
use Rattle.chunk.specs.Listing.{Runs}
use Rattle.chunk.specs.declared.Walk.{Walk}
use Rattle.chunk.proofs.Phases.{answers_not, carve_next}
use Rattle.chunk.proofs.Order.{answered_is, told}
use Rattle.chunk.proofs.Whole.{step_goes}
use Rattle.chunk.proofs.Counting.{runs_one}
use Rattle.promises.specs.Damage.{without_carved}

-- the same place without recovery, and with no range
abbrev off : Walk → Walk
off w = record { place = w.place; from = 0; to = 0; recover = false }

abbrev off_end : TurnEnd → TurnEnd
off_end (answered x) = answered (off x.0, x.1)
off_end (going_on v) = going_on (off v)

off_live : (h : Fields) (w : Walk) (r : Record) (n : ℕ) → off (after_live h w r n) ≡ after_live h (off w) r n
off_live h w r n = by (eqb r.id h.ids.last)
  where
    by : (b : Bool) → off (pick b (skip_to w n None) (placed w (Some n))) ≡ pick b (skip_to (off w) n None) (placed (off w) (Some n))
    by true = refl
    by false = refl

off_refusal : (s : List ℕ) (w : Walk) (p k c : ℕ) (f : Option ℕ) → off_end (after_refusal s w p k c f) ≡ after_refusal s (off w) p k c f
off_refusal s w p k c (Some q) = refl
off_refusal s w p k c None = by (blank s p k)
  where
    by : (b : Bool) → off_end (pick b (going_on (skip_to w p None)) (answered (skip_to w p None, just (refused_with k c))))
        ≡ pick b (going_on (skip_to (off w) p None)) (answered (skip_to (off w) p None, just (refused_with k c)))
    by true = refl
    by false = refl

-- an answer that is no carved record
abbrev NotCarved : Maybe Reply → Type 0
NotCarved (just (carved r)) = ⊥
NotCarved (just (live r)) = Unit {0}
NotCarved (just (refused_with number place)) = Unit {0}
NotCarved nothing = Unit {0}

-- what a step says of the walk without recovery from the state o: the same answer, and none where the answer is a carved record
abbrev Without : List ℕ → Walk → Walk → Maybe Reply → Type 0
Without s o v (just (carved r)) = (items : List Reply) → Runs s (off v) items → Runs s o items
Without s o v (just (live r)) = Steps s o (off v, just (live r))
Without s o v (just (refused_with number place)) = Steps s o (off v, just (refused_with number place))
Without s o v nothing = Steps s o (off v, nothing)

module _ (s : List ℕ) (h : Fields) where
  -- a turn of the walk itself is the same turn without recovery
  off_read : (w : Walk) (p : ℕ) (u : TurnEnd) (a : Answer Record) → ReadTurn s h w p a u → ReadTurn s h (off w) p a (off_end u)
  off_read w p u (given r n) e = ap off_end e ∙ ap (λ (z : Walk). answered (z, just (live r))) (off_live h w r n)
  off_read w p u (refused k c) e =
      record { found = e.found; least = e.least; is = ap off_end e.is ∙ off_refusal s w p k c e.found }

  off_at : (w : Walk) (p : ℕ) (u : TurnEnd) (b : Bool) → Choose b (u ≡ going_on (skip_to w p None)) (ReadTurn s h w p (plain_at s p) u)
      → Choose b (off_end u ≡ going_on (skip_to (off w) p None)) (ReadTurn s h (off w) p (plain_at s p) (off_end u))
  off_at w p u true e = ap off_end e
  off_at w p u false e = off_read w p u (plain_at s p) e

  off_walk : (w : Walk) (u : TurnEnd) (place : Option ℕ) → WalkTurn s h w place u → WalkTurn s h (off w) place (off_end u)
  off_walk w u (Some p) e = off_at w p u (leb (live_end h) p) e
  off_walk w u None e = ap off_end e

  -- and says no carved record
  said : (x y : Walk × Maybe Reply) → NotCarved y.1 → x ≡ y → NotCarved x.1
  said x y k e = subst (λ (z : Walk × Maybe Reply). NotCarved z.1) (sym e) k

  read_says : (w : Walk) (p : ℕ) (x : Walk × Maybe Reply) (a : Answer Record) → ReadTurn s h w p a (answered x) → NotCarved x.1
  read_says w p x (given r n) e = said x _ (tt {0}) (answered_is x _ e)
  read_says w p x (refused k c) e = said x _ (tt {0}) (told x (silent s p k e.found) _ _ _ e.is)

  at_says : (w : Walk) (p : ℕ) (x : Walk × Maybe Reply) (b : Bool)
      → Choose b (answered x ≡ going_on (skip_to w p None)) (ReadTurn s h w p (plain_at s p) (answered x)) → NotCarved x.1
  at_says w p x true e = absurd (answers_not _ x (sym e))
  at_says w p x false e = read_says w p x (plain_at s p) e

  walk_says : (w : Walk) (x : Walk × Maybe Reply) (place : Option ℕ) → WalkTurn s h w place (answered x) → NotCarved x.1
  walk_says w x (Some p) e = at_says w p x (leb (live_end h) p) e
  walk_says w x None e = said x _ (tt {0}) (answered_is x _ e)

  -- a carve leaves the place, and says a carved record
  carved_says : (w : Walk) (x : Walk × Maybe Reply) (a : Answer Record) → answered x ≡ carved_at w a → (off x.0 ≡ off w) × (NotCarved x.1 → ⊥)
  carved_says w x (given r n) e =
      let y = answered_is x _ e in
      (ap (λ (z : Walk × Maybe Reply). off z.0) y, λ k. subst (λ (z : Walk × Maybe Reply). NotCarved z.1) y k)
  carved_says w x (refused k c) e = absurd (answers_not _ x (sym e))

  carve_says : (w : Walk) (x : Walk × Maybe Reply) (f : Option ℕ) → answered x ≡ after_carve s w f → (off x.0 ≡ off w) × (NotCarved x.1 → ⊥)
  carve_says w x (Some o) e = carved_says w x (strict_at s o) e
  carve_says w x None e = absurd (answers_not _ x (sym e))

  module _ (n : ℕ) (header : fields_at s ≡ given h n) where
    to_step : (w : Walk) (x : Walk × Maybe Reply) → Goes s h x w → Steps s w x
    to_step w x g = subst (StepsOn s w x) (sym header) g

    same_step : (o v : Walk) (i : Maybe Reply) → NotCarved i → Steps s o (off v, i) → Without s o v i
    same_step o v (just (carved r)) k t = absurd k
    same_step o v (just (live r)) k t = t
    same_step o v (just (refused_with number place)) k t = t
    same_step o v nothing k t = t

    no_step : (w v : Walk) (i : Maybe Reply) → off v ≡ off w → (NotCarved i → ⊥) → Without s (off w) v i
    no_step w v (just (carved r)) e k = λ items r. subst (λ (z : Walk). Runs s z items) e r
    no_step w v (just (live r)) e k = absurd (k (tt {0}))
    no_step w v (just (refused_with number place)) e k = absurd (k (tt {0}))
    no_step w v nothing e k = absurd (k (tt {0}))

    -- a turn without an answer before it
    goes_before : (o u : Walk) (x : Walk × Maybe Reply) → Turns s h o (going_on u) → Steps s u x → Steps s o x
    goes_before o u x c t = to_step o x (goes_on c (step_goes s h n u x header t))

    runs_before : (o u : Walk) (items : List Reply) → Turns s h o (going_on u) → Runs s u items → Runs s o items
    unfolding Runs
    runs_before o u [] c (v, t) = (v, goes_before o u (v, nothing) c t)
    runs_before o u (i ∷ items) c (v, (t, r)) = (v, (goes_before o u (v, just i) c t, r))

    before : (o u v : Walk) (i : Maybe Reply) → Turns s h o (going_on u) → Without s u v i → Without s o v i
    before o u v (just (carved r)) c k = λ items r. runs_before o u items c (k items r)
    before o u v (just (live r)) c k = goes_before o u _ c k
    before o u v (just (refused_with number place)) c k = goes_before o u _ c k
    before o u v nothing c k = goes_before o u _ c k

    answer_off : (w : Walk) (x : Walk × Maybe Reply) (b : Bool) → Choose b (Carves s w (answered x)) (WalkTurn s h w w.place (answered x)) → Without s (off w) x.0 x.1
    answer_off w x true c = let y = carve_says w x c.found c.is in no_step w x.0 x.1 y.0 y.1
    answer_off w x false c =
        same_step (off w) x.0 x.1 (walk_says w x w.place c) (to_step (off w) (off x.0, x.1) (answers (off_walk w (answered x) w.place c)))

    on_off : (w u v : Walk) (i : Maybe Reply) (b : Bool) → Choose b (Carves s w (going_on u)) (WalkTurn s h w w.place (going_on u)) → Without s (off u) v i → Without s (off w) v i
    on_off w u v i true c k = subst (λ (o : Walk). Without s o v i) (ap off (carve_next w u s c.found c.is)) k
    on_off w u v i false c k = before (off w) (off u) v i (off_walk w (going_on u) w.place c) k

    goes_off : (x : Walk × Maybe Reply) {w : Walk} → Goes s h x w → Without s (off w) x.0 x.1
    goes_off x {w} (answers c) = answer_off w x (ltb w.from w.to) c
    goes_off x {w} (goes_on {next = u} c g) = on_off w u x.0 x.1 (ltb w.from w.to) c (goes_off x g)

    item_off : (o v : Walk) (i : Reply) (items : List Reply) → Without s o v (just i) → Runs s (off v) (without_carved items) → Runs s o (without_carved (i ∷ items))
    unfolding Runs without_carved
    item_off o v (live r) items k rest = (off v, (k, rest))
    item_off o v (carved r) items k rest = k (without_carved items) rest
    item_off o v (refused_with number place) items k rest = (off v, (k, rest))

    runs_off : (w : Walk) (items : List Reply) → Runs s w items → Runs s (off w) (without_carved items)
    unfolding Runs without_carved
    runs_off w [] (v, c) = (off v, goes_off (v, nothing) (step_goes s h n w (v, nothing) header c))
    runs_off w (i ∷ items) (v, (c, r)) = item_off (off w) v i items (goes_off (v, just i) (step_goes s h n w (v, just i) header c)) (runs_off v items r)

-- with recovery and without it a chunk gives the same live records and refusals, in the same order
pub recovery_only_adds : (s : List ℕ) (h : Fields) (n : ℕ) → fields_at s ≡ given h n → (with_recovery without : List Reply)
    → Runs s (start_of true) with_recovery → Runs s (start_of false) without → without ≡ without_carved with_recovery
recovery_only_adds s h n header with_recovery without x y =
    runs_one s (start_of false) without (without_carved with_recovery) y (runs_off s h n header (start_of true) with_recovery x)
