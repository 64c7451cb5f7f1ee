-- In the list numbered through, places rise strictly. Assumes nothing.
use mathlib.Core.Path.{◌≡◌, refl, subst}
use mathlib.Core.Bool.{Bool, true, false}
use mathlib.Core.List.{List, [], ◌∷◌, ◌++◌, map}
use Prim.Native.Nat.{ℕ, zero, suc, ◌+◌, ◌-◌, ◌≤◌, ◌<◌}
use native.Mathlib.Omega.{arith}
use borrow.Author.Tests.{leb-true, ltb-false}
use lib.Dec.{eqb, leb, ltb}
use lib.ListN.{length}
use Rattle.cursor.specs.Answer.{Answer, given, refused, Result, gives, refuses, ◌then◌}
use Rattle.cursor.specs.Reads.{number_of}
use Rattle.cursor.specs.Refusals.{wrong_length, past_end}
use Rattle.cursor.proofs.Choice.{either}
use Rattle.value.proofs.Bounds.{Between}
use Rattle.value.specs.declared.Value.{Value}
use Rattle.tokens.specs.Instance.{value_in}
use Rattle.tokens.specs.Sight.{Seen, begun, met, sight_at}
use Rattle.tokens.specs.Walk.{handed, header, over}
use Rattle.tokens.specs.declared.Flags.{Flags}
use Rattle.tokens.specs.declared.Instance.{Instance}
use Rattle.tokens.specs.declared.Token.{Token}
use Rattle.tokens.proofs.Reach.{Grows, turn_grows}
use Rattle.tokens.proofs.Sights.{Sees, sight_sees}
use Rattle.nest.specs.Nested.{bin_xml, deepest_body, Entry, Own, own, Inner, held_in, reading_on, values_from, held_by, onward, nest_from, nest_at, numbers_from, renumbered, entries_of, by_numbers, inner_flags, judged_from, closed_at, body_at, in_window}
use Rattle.promises.specs.Nests.{Rises, PlacesRise}
use Rattle.nest.proofs.Nesting.{values_between}
use Rattle.nest.proofs.Values.{value_spans}
use Rattle.promises.proofs.NestTurns.{instance_of, turn_met, Ends, turn_ends}

pub rises_wider : (low low' high high' : ℕ) (l : List Entry) → low' ≤ low → high ≤ high' → Rises low high l → Rises low' high' l
rises_wider low low' high high' [] a b h = tt {0}
rises_wider low low' high high' (e ∷ l) a b h =
    (omega (arith, h.0), omega (arith, h.1), rises_wider (suc e.token.place) (suc e.token.place) high high' l (omega arith) b h.2)

pub rises_join : (low mid high : ℕ) (a b : List Entry) → low ≤ mid → mid ≤ high → Rises low mid a → Rises mid high b → Rises low high (a ++ b)
rises_join low mid high [] b l h x y = rises_wider mid low high high b l (omega arith) y
rises_join low mid high (e ∷ a) b l h x y =
    (x.0, omega (arith, x.1), rises_join (suc e.token.place) mid high a b (omega (arith, x.1)) h x.2 y)

-- no more tokens than places
pub rises_few : (low high : ℕ) (l : List Entry) → low ≤ high → Rises low high l → low + length l ≤ high
rises_few low high [] h x = omega arith
rises_few low high (e ∷ l) h x =
    let y = rises_few (suc e.token.place) high l (omega (arith, x.1)) x.2 in
    omega (arith, x.0, y)

-- of a result, and of what was read of values and of a walk
abbrev pub Held : ℕ → ℕ → Result (List Entry) → Type 0
Held low high (gives l) = Rises low high l
Held low high (refuses k p) = Unit {0}

abbrev InValues : ℕ → Answer (List Entry) → Type 0
InValues at (given l last) = Rises at last l
InValues at (refused k p) = Unit {0}

abbrev InWalk : ℕ → ℕ → Answer (List Own) → Type 0
InWalk high at (given l last) = (at ≤ last) × (last ≤ high) × ((level : ℕ) (words : List ℕ) → Rises at last (entries_of level words l))
InWalk high at (refused k p) = Unit {0}

held_wider : (low high high' : ℕ) (r : Result (List Entry)) → high ≤ high' → Held low high r → Held low high' r
held_wider low high high' (gives l) h x = rises_wider low low high high' l (omega arith) h x
held_wider low high high' (refuses k p) h x = tt {0}

walk_lower : (high at next : ℕ) (a : Answer (List Own)) → at ≤ next → InWalk high next a → InWalk high at a
walk_lower high at next (given l last) h x =
    (omega (arith, x.0), x.1, λ level words. rises_wider next at last last (entries_of level words l) h (omega arith) (x.2 level words))
walk_lower high at next (refused k p) h x = tt {0}

-- a token, what its values hold, and the rest
walk_own : (high at next : ℕ) (t : Token) (l : List Entry) (a : Answer (List Own)) → at ≤ t.place → t.place < next → Rises (suc t.place) next l
    → InWalk high next a → InWalk high at (a then λ r last. given (own t l ∷ r) last)
walk_own high at next t l (given r last) p q h x = (omega (arith, x.0), x.1, λ level words. by_words level words)
  where
    by_words : (level : ℕ) (words : List ℕ) → Rises at last (entries_of level words (own t l ∷ r))
    by_words level [] = tt {0}
    by_words level (w ∷ words) =
        (p, omega (arith, x.0), rises_join (suc t.place) next last l (entries_of level words r) (omega arith) x.0 h (x.2 level words))
walk_own high at next t l (refused k p) a q h x = tt {0}

-- the body in each value lies within it
abbrev pub Lies : List ℕ → Inner → Type 0
Lies s inner = (n start size : ℕ) → start ≤ length s → Held start (start + size) (inner n start size)

module _ (s : List ℕ) (inner : Inner) (lies : Lies s inner) where
  pub held_rises : (b : Bool) (n start size at next : ℕ) → start ≡ at → at + size ≤ next → at ≤ length s → Held at next (held_in inner b n start size)
  held_rises true n start size at next e h k =
      subst (λ (z : ℕ). Held z next (inner n start size)) e
      (held_wider start (start + size) next (inner n start size) (omega (arith, e)) (lies n start size (omega (arith, e))))
  held_rises false n start size at next e h k = tt {0}

  rest_rises : (at next : ℕ) (l : List Entry) (y : Answer (List Entry)) → at ≤ next → Rises at next l → Between next (length s) y → InValues next y
      → InValues at (y then λ m last. given (l ++ m) last)
  rest_rises at next l (given m last) h x b y = rises_join at next last l m h b.0 x y
  rest_rises at next l (refused k p) h x b y = tt {0}

  -- a value that was read, and the values after it
  after_held : (count n table at next : ℕ) (r : Result (List Entry)) → at ≤ next → next ≤ length s → Held at next r
      → ((m : ℕ) → InValues next (values_from s inner m (table + 4) next count))
      → InValues at (reading_on r next then λ l next. values_from s inner (n + length l) (table + 4) next count then λ m last. given (l ++ m) last)
  after_held count n table at next (gives l) a b x go =
      rest_rises at next l (values_from s inner (n + length l) (table + 4) next count) a x
      (values_between s inner count (n + length l) (table + 4) next b) (go (n + length l))
  after_held count n table at next (refuses k p) a b x go = tt {0}

  after_value : (count n table at : ℕ) (x : Answer Value) → value_in s table at ≡ x → at ≤ length s
      → ((m next : ℕ) → next ≤ length s → InValues next (values_from s inner m (table + 4) next count))
      → InValues at
      (x then λ v next.
      reading_on (held_in inner (eqb v.code bin_xml) n v.start (number_of s table 2)) next then λ l next.
      values_from s inner (n + length l) (table + 4) next count then λ m last.
      given (l ++ m) last)
  after_value count n table at (given v next) e h go =
      let w = value_spans s table at v next h e in
      after_held count n table at next (held_in inner (eqb v.code bin_xml) n v.start (number_of s table 2)) (omega (arith, w.1)) w.2
      (held_rises (eqb v.code bin_xml) n v.start (number_of s table 2) at next w.0 w.1 h) (λ m. go m next w.2)
  after_value count n table at (refused k p) e h go = tt {0}

  values_rise : (count n table at : ℕ) → at ≤ length s → InValues at (values_from s inner n table at count)
  unfolding values_from
  values_rise zero n table at h = tt {0}
  values_rise (suc count) n table at h =
      after_value count n table at (value_in s table at) refl h (λ m next k. values_rise count m (table + 4) next k)

  module _ (end : ℕ) (f : Flags) where
    after_values : (n at : ℕ) (i : Instance) (next : ℕ) (y : Answer (List Entry)) (go : ℕ → ℕ → Answer (List Own)) → at < next → Between next (length s) y
        → InValues next y → ((m last : ℕ) → last ≤ length s → InWalk (length s) last (go m last))
        → InWalk (length s) at (onward s inner n (y then λ l last. given (handed (instance_of i at last), l) last) go)
    after_values n at i next (given l last) go g b x to =
        walk_own (length s) at last (instance_of i at last) l (go (suc n + length l) last) (omega arith) (omega (arith, b.0))
        (rises_wider next (suc at) last last l g (omega arith) x) (to (suc n + length l) last b.1)
    after_values n at i next (refused k p) go g b x to = tt {0}

    after_seen : (n at : ℕ) (x : Answer Seen) (go : ℕ → ℕ → Answer (List Own)) → sight_at s end f at ≡ x → Sees at (length s) x → at ≤ length s
        → ((m next : ℕ) → next ≤ length s → InWalk (length s) next (go m next))
        → InWalk (length s) at (onward s inner n (x then held_by s inner n at) go)
    after_seen n at (given (begun i) next) go e g h to =
        after_values n at i next (values_from s inner (suc n) i.table next i.count) go g.0
        (values_between s inner i.count (suc n) i.table next g.1) (values_rise i.count (suc n) i.table next g.1) to
    after_seen n at (given (met (handed t)) next) go e g h to =
        let w = subst (Grows at (length s)) (turn_met s end f at (handed t) next e) (turn_grows s end f at) in
        walk_own (length s) at next t [] (go (suc n + 0) next) w.0 w.1 (tt {0}) (to (suc n + 0) next g.1)
    after_seen n at (given (met header) next) go e g h to = walk_lower (length s) at next (go n next) (omega (arith, g.0)) (to n next g.1)
    after_seen n at (given (met over) next) go e g h to =
        (g, subst (Ends (length s)) (turn_met s end f at over next e) (turn_ends s end f at h), λ level words. tt {0})
    after_seen n at (refused k p) go e g h to = tt {0}

    nest_rises : (turns n at : ℕ) → at ≤ length s → InWalk (length s) at (nest_from s inner turns end f n at)
    unfolding nest_from
    nest_rises zero n at h = (omega arith, h, λ level words. tt {0})
    nest_rises (suc turns) n at h =
        after_seen n at (sight_at s end f at) (nest_from s inner turns end f) refl (sight_sees s end f at) h (λ m next k. nest_rises turns m next k)

module _ (judge : List ℕ → Result (List ℕ)) where
  numbered_rises : (level start last : ℕ) (numbers : List ℕ) (l : List Own) (v : Result (List ℕ)) → ((words : List ℕ) → Rises start last (entries_of level words l))
      → Held start last (by_numbers level numbers l v)
  numbered_rises level start last numbers l (gives words) h = h (map (renumbered numbers) words)
  numbered_rises level start last numbers l (refuses k p) h = tt {0}

  -- a value's window, and the outer one
  inner_rises : (high level n start end : ℕ) (a : Answer (List Own)) → InWalk high start a → Held start end (closed_at judge level true n start end a)
  inner_rises high level n start end (given l last) x =
      either (Held start end) (ltb end last) _ _ (λ e. tt {0})
      (λ e. held_wider start last end (judged_from judge level n l) (ltb-false end last e)
      (numbered_rises level start last (numbers_from n l) l (judge _) (x.2 level)))
  inner_rises high level n start end (refused k p) x = tt {0}

  outer_rises : (high level n start end : ℕ) (a : Answer (List Own)) → InWalk high start a → Held start high (closed_at judge level false n start end a)
  outer_rises high level n start end (given l last) x =
      held_wider start last high (judged_from judge level n l) x.1 (numbered_rises level start last (numbers_from n l) l (judge _) (x.2 level))
  outer_rises high level n start end (refused k p) x = tt {0}

  module _ (s : List ℕ) where
    pub body_lies : (left : ℕ) (inline : Bool) → Lies s (body_at judge s inline left)
    unfolding body_at
    body_lies zero inline n start size h = tt {0}
    body_lies (suc left) inline n start size h =
        inner_rises (length s) (deepest_body - left) n start (start + size) (nest_at s (body_at judge s inline left) (start + size) (inner_flags inline) n start)
        (nest_rises s (body_at judge s inline left) (body_lies left inline) (start + size) (inner_flags inline) (suc (length s - start)) n start h)

    -- the whole
    abbrev InWhole : ℕ → Flags → Result (ℕ × ℕ) → Type 0
    InWhole start f x = (l : List Entry) → in_window judge s f x ≡ gives l → Rises start (length s) l × (length l ≤ 65536)

    none_given : (start k p : ℕ) (f : Flags) → InWhole start f (refuses k p)
    none_given start k p f l e = let z : ◌≡◌ {A = ℕ} 0 1 = cc in absurd (omega arith)

    whole_rises : (start end : ℕ) (f : Flags) → length s ≤ 65536 → start ≤ length s → InWhole start f (gives (start, end))
    whole_rises start end f h k l e =
        let inner = body_at judge s f.inline deepest_body in
        let x =
        subst (Held start (length s)) e
        (outer_rises (length s) 0 0 start end (nest_at s inner end f 0 start)
        (nest_rises s inner (body_lies deepest_body f.inline) end f (suc (length s - start)) 0 start k))
        in
        (x, omega (arith, rises_few start (length s) l k x))

pub places_rise : PlacesRise
places_rise judge s start len f =
    either (InWhole judge s start f) (leb (length s) 65536) _ _
    (λ h. either (InWhole judge s start f) (leb start (length s)) _ _
    (λ k. whole_rises judge s start (start + len) f (leb-true (length s) 65536 h) (leb-true start (length s) k))
    (λ k. none_given judge s start past_end start f))
    (λ h. none_given judge s start wrong_length 0 f)
