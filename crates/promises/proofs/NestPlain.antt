-- Where no value is of type 21, a window's walk is the walk. Assumes nothing.
use mathlib.Core.Path.{◌≡◌, refl, sym, ap, subst, ◌∙◌}
use mathlib.Core.Bool.{Bool}
use mathlib.Core.List.{List, [], ◌∷◌, ◌++◌}
use Prim.Native.Nat.{ℕ, zero, suc, ◌+◌, ◌-◌, ◌*◌, ◌≤◌, ◌<◌}
use native.Mathlib.Omega.{arith}
use borrow.Author.Tests.{ne_eqb}
use lib.Dec.{eqb}
use lib.ListN.{length}
use Rattle.cursor.specs.Answer.{Answer, given, refused, ◌then◌}
use Rattle.cursor.specs.Reads.{number_of}
use Rattle.value.specs.declared.Value.{Value}
use Rattle.value.proofs.Bounds.{Between}
use Rattle.tokens.specs.Instance.{value_in, values_at}
use Rattle.tokens.specs.Sight.{Seen, begun, met, sight_at}
use Rattle.tokens.specs.Walk.{handed, header, over, Walked, bad, before, walk_at}
use Rattle.tokens.specs.declared.Flags.{Flags}
use Rattle.tokens.specs.declared.Instance.{Instance}
use Rattle.tokens.specs.declared.Token.{Token}
use Rattle.tokens.proofs.Reach.{values}
use Rattle.tokens.proofs.Sights.{Sees, sight_sees}
use Rattle.nest.specs.Nested.{bin_xml, Entry, Own, own, Inner, held_in, reading_on, values_from, held_by, onward, nest_from, nest_at}
use Rattle.nest.proofs.Values.{Coded, value_coded}
use Rattle.promises.specs.Nests.{Reached, at_start, after_token, after_header, NoneHeld, NoBodies}
use Rattle.promises.proofs.NestTurns.{instance_of, wholly, turn_sight, turn_met, turn_begun}
use Rattle.promises.proofs.NestWalk.{walk_handed, walk_refused, walk_header}

-- values that hold nothing
abbrev bare : Answer Unit → Answer (List Entry)
bare a = a then λ _ last. given [] last

bare_rest : (a : Answer Unit) → (bare a then λ m last. given ([] ++ m) last) ≡ bare a
bare_rest (given x last) = refl
bare_rest (refused k p) = refl

module _ (s : List ℕ) (inner : Inner) where
  after_value : (count n table : ℕ) (x : Answer Value) → Coded (number_of s (table + 2) 1) x → (number_of s (table + 2) 1 ≡ bin_xml → ⊥)
      → ((m next : ℕ) → values_from s inner m (table + 4) next count ≡ bare (values_at s (table + 4) next count))
      → (x then λ v next.
      reading_on (held_in inner (eqb v.code bin_xml) n v.start (number_of s table 2)) next then λ l next.
      values_from s inner (n + length l) (table + 4) next count then λ m last.
      given (l ++ m) last)
      ≡ bare (x then λ _ at. values_at s (table + 4) at count)
  after_value count n table (given v next) c h go =
      ap
      (λ (b : Bool).
      reading_on (held_in inner b n v.start (number_of s table 2)) next then λ l next.
      values_from s inner (n + length l) (table + 4) next count then λ m last.
      given (l ++ m) last)
      (ne_eqb v.code bin_xml (λ z. h (sym c ∙ z)))
      ∙ ap (λ (y : Answer (List Entry)). y then λ m last. given ([] ++ m) last) (go (n + 0) next) ∙ bare_rest (values_at s (table + 4) next count)
  after_value count n table (refused k p) c h go = refl

  this_one : (table : ℕ) → number_of s (table + 4 * 0 + 2) 1 ≡ number_of s (table + 2) 1
  this_one table =
      let e : table + 4 * 0 + 2 ≡ table + 2 = omega arith in
      ap (λ (z : ℕ). number_of s z 1) e

  next_one : (table k : ℕ) → number_of s (table + 4 * suc k + 2) 1 ≡ number_of s (table + 4 + 4 * k + 2) 1
  next_one table k =
      let e : table + 4 * suc k + 2 ≡ table + 4 + 4 * k + 2 = omega arith in
      ap (λ (z : ℕ). number_of s z 1) e

  values_plain : (count n table at : ℕ) → NoneHeld s table count → values_from s inner n table at count ≡ bare (values_at s table at count)
  unfolding values_from values_at
  values_plain zero n table at h = refl
  values_plain (suc count) n table at h =
      after_value count n table (value_in s table at) (value_coded s table at) (λ z. h 0 (omega arith) (this_one table ∙ z))
      (λ m next. values_plain count m (table + 4) next (λ k l z. h (suc k) (omega arith) (next_one table k ∙ z)))

-- tokens that hold nothing
abbrev pub Bare : List Own → Type 0
Bare [] = Unit {0}
Bare (o ∷ l) = (o.within ≡ []) × Bare l

abbrev pub Plain : Walked → Answer (List Own) → Type 0
Plain w (given l last) = Bare l
Plain w (refused k p) = w ≡ bad k p

one_more : (w r : Walked) (t : Token) (y : Answer (List Own)) → w ≡ before t r → Plain r y → Plain w (y then λ r last. given (own t [] ∷ r) last)
one_more w r t (given d last) e x = (refl, x)
one_more w r t (refused k p) e x = e ∙ ap (before t) x

module _ (s : List ℕ) (inner : Inner) (end : ℕ) (f : Flags) (start : ℕ) (none : NoBodies s end f start) where
  after_values : (n at : ℕ) (i : Instance) (next : ℕ) (v : Answer Unit) (go : ℕ → ℕ → Answer (List Own)) → Reached s end f start at
      → sight_at s end f at ≡ given (begun i) next → values_at s i.table next i.count ≡ v → at < next → Between next (length s) v
      → ((m last : ℕ) → at < last → last ≤ length s → Reached s end f start last → Plain (walk_at s end f last) (go m last))
      → Plain (walk_at s end f at) (onward s inner n (bare v then λ l last. given (handed (instance_of i at last), l) last) go)
  after_values n at i next (given x last) go r e v h b to =
      let t = turn_begun s end f at i next last e v in
      one_more (walk_at s end f at) (walk_at s end f last) (instance_of i at last) (go (suc n + 0) last) (walk_handed s end f at last (instance_of i at last) t)
      (to (suc n + 0) last (omega (arith, b.0)) b.1 (after_token (instance_of i at last) r t))
  after_values n at i next (refused k p) go r e v h b to =
      walk_refused s end f at k p
      (turn_sight s end f at ∙ ap (λ (x : Answer Seen). x then wholly s at) e
      ∙ ap (λ (x : Answer Unit). x then λ _ last. given (handed (instance_of i at last)) last) v)

  after_seen : (n at : ℕ) (x : Answer Seen) (go : ℕ → ℕ → Answer (List Own)) → Reached s end f start at → sight_at s end f at ≡ x → Sees at (length s) x
      → ((m next : ℕ) → at < next → next ≤ length s → Reached s end f start next → Plain (walk_at s end f next) (go m next))
      → Plain (walk_at s end f at) (onward s inner n (x then held_by s inner n at) go)
  after_seen n at (given (begun i) next) go r e g to =
      subst
      (λ (y : Answer (List Entry)). Plain (walk_at s end f at) (onward s inner n (y then λ l last. given (handed (instance_of i at last), l) last) go))
      (sym (values_plain s inner i.count (suc n) i.table next (none at r i next e)))
      (after_values n at i next (values_at s i.table next i.count) go r e refl g.0 (values s i.count i.table next g.1) to)
  after_seen n at (given (met (handed t)) next) go r e g to =
      let q = turn_met s end f at (handed t) next e in
      one_more (walk_at s end f at) (walk_at s end f next) t (go (suc n + 0) next) (walk_handed s end f at next t q)
      (to (suc n + 0) next g.0 g.1 (after_token t r q))
  after_seen n at (given (met header) next) go r e g to =
      let q = turn_met s end f at header next e in
      subst (λ (w : Walked). Plain w (go n next)) (sym (walk_header s end f at next q)) (to n next g.0 g.1 (after_header r q))
  after_seen n at (given (met over) next) go r e g to = tt {0}
  after_seen n at (refused k p) go r e g to =
      walk_refused s end f at k p (turn_sight s end f at ∙ ap (λ (x : Answer Seen). x then wholly s at) e)

  from_plain : (turns n at : ℕ) → 0 < turns → length s < at + turns → Reached s end f start at
      → Plain (walk_at s end f at) (nest_from s inner turns end f n at)
  unfolding nest_from
  from_plain zero n at a b r = absurd (omega arith)
  from_plain (suc turns) n at a b r =
      after_seen n at (sight_at s end f at) (nest_from s inner turns end f) r refl (sight_sees s end f at)
      (λ m next h k q. from_plain turns m next (omega arith) (omega arith) q)

  pub nest_plain : (n : ℕ) → Plain (walk_at s end f start) (nest_at s inner end f n start)
  nest_plain n = from_plain (suc (length s - start)) n start (omega arith) (omega arith) at_start
