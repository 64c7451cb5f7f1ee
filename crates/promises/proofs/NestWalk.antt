-- A window's own tokens are those of the walk. Assumes nothing.
use mathlib.Core.Path.{◌≡◌, refl, sym, ap, subst, ◌∙◌}
use mathlib.Core.List.{List, [], ◌∷◌, ◌++◌}
use Prim.Native.Nat.{ℕ, zero, suc, ◌+◌, ◌-◌, ◌≤◌, ◌<◌}
use native.Mathlib.Omega.{arith}
use lib.Dec.{eqb}
use lib.ListN.{length}
use Rattle.cursor.specs.Answer.{Answer, given, refused, Result, gives, refuses, ◌then◌}
use Rattle.cursor.specs.Reads.{number_of}
use Rattle.value.proofs.Bounds.{Between}
use Rattle.value.specs.declared.Value.{Value}
use Rattle.tokens.specs.Instance.{value_in, values_at}
use Rattle.tokens.specs.Sight.{Seen, begun, met, sight_at}
use Rattle.tokens.specs.Walk.{Met, handed, header, over, turn_at, step_at, Walked, ok, bad, before, walk_at}
use Rattle.tokens.specs.declared.Flags.{Flags}
use Rattle.tokens.specs.declared.Instance.{Instance}
use Rattle.tokens.specs.declared.Token.{Token}
use Rattle.tokens.proofs.Sights.{Sees, sight_sees}
use Rattle.tokens.proofs.Steps.{step_is, step_header, walk_is, walk_token}
use Rattle.nest.specs.Nested.{bin_xml, Entry, Own, own, Inner, held_in, reading_on, values_from, held_by, onward, nest_from, nest_at, tokens_of}
use Rattle.nest.proofs.Nesting.{values_between}
use Rattle.promises.proofs.NestTurns.{instance_of, turn_met, turn_begun}

-- the walk, turn by turn
module _ (s : List ℕ) (end : ℕ) (f : Flags) (at : ℕ) where
  pub walk_handed : (next : ℕ) (t : Token) → turn_at s end f at ≡ given (handed t) next → walk_at s end f at ≡ before t (walk_at s end f next)
  walk_handed next t e = walk_token s end f at next t (step_is s end f at (given (handed t) next) e)

  pub walk_over : (next : ℕ) → turn_at s end f at ≡ given over next → walk_at s end f at ≡ ok []
  walk_over next e = walk_is s end f at (given over next) (step_is s end f at (given over next) e)

  pub walk_refused : (k p : ℕ) → turn_at s end f at ≡ refused k p → walk_at s end f at ≡ bad k p
  walk_refused k p e = walk_is s end f at (refused k p) (step_is s end f at (refused k p) e)

  by_step : (next : ℕ) (x : Answer Met) → step_at s end f at ≡ x → step_at s end f next ≡ x → walk_at s end f at ≡ walk_at s end f next
  by_step next (given (handed t) m) a b = walk_token s end f at m t a ∙ sym (walk_token s end f next m t b)
  by_step next (given header m) a b = walk_is s end f at (given header m) a ∙ sym (walk_is s end f next (given header m) b)
  by_step next (given over m) a b = walk_is s end f at (given over m) a ∙ sym (walk_is s end f next (given over m) b)
  by_step next (refused k p) a b = walk_is s end f at (refused k p) a ∙ sym (walk_is s end f next (refused k p) b)

  pub walk_header : (next : ℕ) → turn_at s end f at ≡ given header next → walk_at s end f at ≡ walk_at s end f next
  walk_header next e = by_step next (step_at s end f next) (step_header s end f at next e) refl

-- the values end where they end in the walk
abbrev Through : Answer Unit → Answer (List Entry) → Type 0
Through v (given l last) = v ≡ given tt last
Through v (refused k p) = Unit {0}

module _ (s : List ℕ) (inner : Inner) where
  after_rest : (v : Answer Unit) (l : List Entry) (y : Answer (List Entry)) → Through v y → Through v (y then λ m last. given (l ++ m) last)
  after_rest v l (given m last) x = x
  after_rest v l (refused k p) x = tt {0}

  after_held : (count n table next : ℕ) (v : Answer Unit) (r : Result (List Entry))
      → ((m : ℕ) → Through v (values_from s inner m (table + 4) next count))
      → Through v (reading_on r next then λ l next. values_from s inner (n + length l) (table + 4) next count then λ m last. given (l ++ m) last)
  after_held count n table next v (gives l) go = after_rest v l (values_from s inner (n + length l) (table + 4) next count) (go (n + length l))
  after_held count n table next v (refuses k p) go = tt {0}

  after_value : (count n table : ℕ) (x : Answer Value)
      → ((m next : ℕ) → Through (values_at s (table + 4) next count) (values_from s inner m (table + 4) next count))
      → Through (x then λ _ at. values_at s (table + 4) at count)
      (x then λ v next.
      reading_on (held_in inner (eqb v.code bin_xml) n v.start (number_of s table 2)) next then λ l next.
      values_from s inner (n + length l) (table + 4) next count then λ m last.
      given (l ++ m) last)
  after_value count n table (given v next) go =
      after_held count n table next (values_at s (table + 4) next count) (held_in inner (eqb v.code bin_xml) n v.start (number_of s table 2)) (λ m. go m next)
  after_value count n table (refused k p) go = tt {0}

  pub values_through : (count n table at : ℕ) → Through (values_at s table at count) (values_from s inner n table at count)
  unfolding values_from values_at
  values_through zero n table at = refl
  values_through (suc count) n table at = after_value count n table (value_in s table at) (λ m next. values_through count m (table + 4) next)

-- a window's own tokens are the walk's
abbrev pub Walks : Walked → Answer (List Own) → Type 0
Walks w (given l last) = w ≡ ok (tokens_of l)
Walks w (refused k p) = Unit {0}

one_more : (w r : Walked) (t : Token) (l : List Entry) (y : Answer (List Own)) → w ≡ before t r → Walks r y → Walks w (y then λ r last. given (own t l ∷ r) last)
one_more w r t l (given d last) e x = e ∙ ap (before t) x
one_more w r t l (refused k p) e x = tt {0}

module _ (s : List ℕ) (inner : Inner) (end : ℕ) (f : Flags) where
  after_values : (n at : ℕ) (i : Instance) (next : ℕ) (y : Answer (List Entry)) (go : ℕ → ℕ → Answer (List Own)) → sight_at s end f at ≡ given (begun i) next
      → Through (values_at s i.table next i.count) y → at < next → Between next (length s) y
      → ((m last : ℕ) → at < last → last ≤ length s → Walks (walk_at s end f last) (go m last))
      → Walks (walk_at s end f at) (onward s inner n (y then λ l last. given (handed (instance_of i at last), l) last) go)
  after_values n at i next (given l last) go e v h b to =
      one_more (walk_at s end f at) (walk_at s end f last) (instance_of i at last) l (go (suc n + length l) last)
      (walk_handed s end f at last (instance_of i at last) (turn_begun s end f at i next last e v)) (to (suc n + length l) last (omega (arith, b.0)) b.1)
  after_values n at i next (refused k p) go e v h b to = tt {0}

  after_seen : (n at : ℕ) (x : Answer Seen) (go : ℕ → ℕ → Answer (List Own)) → sight_at s end f at ≡ x → Sees at (length s) x
      → ((m next : ℕ) → at < next → next ≤ length s → Walks (walk_at s end f next) (go m next))
      → Walks (walk_at s end f at) (onward s inner n (x then held_by s inner n at) go)
  after_seen n at (given (begun i) next) go e g to =
      after_values n at i next (values_from s inner (suc n) i.table next i.count) go e (values_through s inner i.count (suc n) i.table next) g.0
      (values_between s inner i.count (suc n) i.table next g.1) to
  after_seen n at (given (met (handed t)) next) go e g to =
      one_more (walk_at s end f at) (walk_at s end f next) t [] (go (suc n + 0) next) (walk_handed s end f at next t (turn_met s end f at (handed t) next e))
      (to (suc n + 0) next g.0 g.1)
  after_seen n at (given (met header) next) go e g to =
      subst (λ (w : Walked). Walks w (go n next)) (sym (walk_header s end f at next (turn_met s end f at header next e))) (to n next g.0 g.1)
  after_seen n at (given (met over) next) go e g to = walk_over s end f at next (turn_met s end f at over next e)
  after_seen n at (refused k p) go e g to = tt {0}

  from_walks : (turns n at : ℕ) → 0 < turns → length s < at + turns → Walks (walk_at s end f at) (nest_from s inner turns end f n at)
  unfolding nest_from
  from_walks zero n at a b = absurd (omega arith)
  from_walks (suc turns) n at a b =
      after_seen n at (sight_at s end f at) (nest_from s inner turns end f) refl (sight_sees s end f at)
      (λ m next h k. from_walks turns m next (omega arith) (omega arith))

  pub nest_walks : (n at : ℕ) → Walks (walk_at s end f at) (nest_at s inner end f n at)
  nest_walks n at = from_walks (suc (length s - at)) n at (omega arith) (omega arith)
