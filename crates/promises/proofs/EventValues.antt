-- The values of an instance that was read are all there, and so those of each body of an accepted event. Assumes nothing.
use mathlib.Core.Path.{◌≡◌, refl, sym, ap, subst, ◌∙◌}
use mathlib.Core.Bool.{Bool, true, false}
use mathlib.Core.List.{List, [], ◌∷◌, ◌++◌}
use Prim.Native.Nat.{ℕ, zero, suc, ◌+◌, ◌-◌, ◌*◌, ◌≤◌, ◌<◌}
use native.Mathlib.Omega.{arith}
use borrow.Author.Tests.{ne_eqb, eqb-true, eqb-false}
use lib.Dec.{eqb}
use lib.ListN.{length}
use Rattle.cursor.specs.Answer.{Answer, given, refused, Result, gives, ◌then◌, pick, Maybe, just, nothing}
use Rattle.cursor.specs.Reads.{number_of}
use Rattle.cursor.proofs.Choice.{either}
use Rattle.value.specs.declared.Value.{Value}
use Rattle.tokens.specs.Instance.{ValueNext, value_in, values_at, value_step, next_given, next_of}
use Rattle.tokens.specs.Sight.{Seen, begun, met, sight_at}
use Rattle.tokens.specs.Walk.{handed, over}
use Rattle.tokens.specs.declared.Flags.{Flags}
use Rattle.tokens.specs.declared.Instance.{Instance}
use Rattle.tokens.specs.declared.Token.{Token}
use Rattle.tokens.specs.declared.Values as T
use Rattle.tokens.proofs.Runs.{step_reads}
use Rattle.tokens.proofs.Sights.{Sees, sight_sees}
use Rattle.nest.specs.Nested.{bin_xml, inner_flags, Entry, Own}
use Rattle.nest.proofs.Values.{value_spans}
use Rattle.event.specs.Accepted.{Each}
use Rattle.event.specs.Event.{Span, is_instruction, value_on, value_from, root_at, spans_on, spans_from, spans_in, bodies_at}
use Rattle.event.specs.declared.text.Root.{Root}
use Rattle.event.specs.declared.text.Root.TheVariants as R
use Rattle.event.proofs.Roots.{root_is, root_header, root_past, root_token}
use Rattle.promises.specs.NestWindows as w
use Rattle.promises.specs.NestWindows.{Window, window, Walk, a_token, an_instance, a_header, its_end, Values, no_more, another}
use Rattle.promises.specs.EventValues.{AllThere, BelowCount}

-- a walk over values, by its descriptor, how many are left and where it stands
abbrev standing : ℕ → ℕ → ℕ → T.Values
standing table left at = record { table = table; left = left; at = at }

abbrev There : List ℕ → ℕ → T.Values → Type 0
There s m v = (x : Value) × (value_from s m v ≡ just x)

module _ (s : List ℕ) where
  -- the next value, where it is read
  abbrev found : ℕ → ℕ → Value → ℕ → ValueNext
  found table count x next = record { value = x; size = number_of s table 2; rest = standing (table + 4) count next }

  next_read : (table at count next : ℕ) (x : Value) → table + 4 * suc count ≤ length s → at ≤ length s → value_in s table at ≡ given x next
      → next_of s (standing table (suc count) at) ≡ gives (just (found table count x next))
  next_read table at count next x h k e =
      let v = standing table (suc count) at in
      let c : suc count - 1 ≡ count = omega arith in
      ap (λ (b : Bool). pick b (gives nothing) (next_given v (number_of s table 2) (value_step s table at))) (ne_eqb (suc count) 0 (λ z. omega arith))
      ∙ ap (next_given v (number_of s table 2)) (step_reads s table at (omega arith) k ∙ e) ∙ ap (λ (n : ℕ). gives (just (found table n x next))) c

  -- a value by its number: the next one, or one after it
  first_value : (v : T.Values) (y : ValueNext) → next_of s v ≡ gives (just y) → value_from s 0 v ≡ just y.value
  unfolding value_from
  first_value v y e = ap (λ (o : Result (Maybe ValueNext)). value_on s o (λ _. nothing) true) e

  later_value : (m : ℕ) (v : T.Values) (y : ValueNext) → next_of s v ≡ gives (just y) → value_from s (suc m) v ≡ value_from s m y.rest
  unfolding value_from
  later_value m v y e = ap (λ (o : Result (Maybe ValueNext)). value_on s o (value_from s m) false) e

  -- of values that were all read, each is there
  after_value : (m count table at last : ℕ) (a : Answer Value) → table + 4 * suc count ≤ length s → at ≤ length s → value_in s table at ≡ a
      → (a then λ _ next. values_at s (table + 4) next count) ≡ given tt last → m < suc count
      → ((k next : ℕ) → next ≤ length s → values_at s (table + 4) next count ≡ given tt last → k < count → There s k (standing (table + 4) count next))
      → There s m (standing table (suc count) at)
  after_value zero count table at last (given x next) h k e r l go =
      (x, first_value (standing table (suc count) at) (found table count x next) (next_read table at count next x h k e))
  after_value (suc m) count table at last (given x next) h k e r l go =
      let y = go m next (value_spans s table at x next k e).2 r (omega arith) in
      (y.0, later_value m (standing table (suc count) at) (found table count x next) (next_read table at count next x h k e) ∙ y.1)
  after_value m count table at last (refused n p) h k e r l go = let z : ◌≡◌ {A = ℕ} 0 1 = cc in absurd (omega arith)

  all_read : (count m table at last : ℕ) → table + 4 * count ≤ length s → at ≤ length s → values_at s table at count ≡ given tt last → m < count
      → There s m (standing table count at)
  unfolding values_at
  all_read zero m table at last h k e l = absurd (omega arith)
  all_read (suc count) m table at last h k e l =
      after_value m count table at last (value_in s table at) h k refl e l (λ j next i r b. all_read count j (table + 4) next last (omega arith) i r b)

pub value_below_count : BelowCount
value_below_count s end f at next last i e r m l =
    let g = subst (Sees at (length s)) e (sight_sees s end f at) in
    subst (λ (n : ℕ). There s m (standing i.table i.count n)) (sym g.3) (all_read s i.count m i.table next last g.2 g.1 r l)

each_append : {A : Type 0} (P : A → Type 0) (a b : List A) → Each P a → Each P b → Each P (a ++ b)
each_append P [] b x y = y
each_append P (z ∷ a) b x y = (x.0, each_append P a b x.1 y)

module _ (s : List ℕ) (inline : Bool) where
  -- of a root: its values are there
  abbrev pub Holds : Root → Type 0
  Holds (R.Instance i) = AllThere s i
  Holds R.Element = Unit {0}

  abbrev pub Whole : Span → Type 0
  Whole x = Holds (root_at s inline x.end x.start)

  -- and those of the bodies in them, so many levels down
  abbrev in_values : ℕ → Root → List Span
  in_values left root = spans_in s inline (bodies_at s inline left) root

  abbrev Down : Root → Type 0
  Down root = Holds root × ((left : ℕ) → Each Whole (in_values left root))

  element_down : Down R.Element
  element_down = (tt {0}, λ left. tt)

  body_down : (left start end : ℕ) → Down (root_at s inline end start) → Each Whole (bodies_at s inline left start end)
  unfolding bodies_at
  body_down zero start end d = (d.0, tt)
  body_down (suc left) start end d = (d.0, d.1 left)

  -- a token before the root, or the root of an element body
  token_down : (end at next : ℕ) (t : Token) (b : Bool) → is_instruction t.kind ≡ b → sight_at s end (inner_flags inline) at ≡ given (met (handed t)) next
      → Down (root_at s inline end next) → Down (root_at s inline end at)
  token_down end at next t true k e d = subst Down (sym (root_past s inline end at t next e k)) d
  token_down end at next t false k e d = subst Down (sym (root_token s inline end at t next e k)) element_down

  -- the bodies in values: none more, or the first one's and those of the rest
  none_down : (left : ℕ) (v : T.Values) → Each Whole (spans_from s inline (bodies_at s inline left) 0 v)
  unfolding spans_from
  none_down left v = tt

  abbrev in_one : ℕ → Value → ℕ → List Span
  in_one left x size = pick (eqb x.code bin_xml) (bodies_at s inline left x.start (x.start + size)) []

  spans_next : (left count : ℕ) (v : T.Values) (y : ValueNext) → next_of s v ≡ gives (just y)
      → spans_from s inline (bodies_at s inline left) (suc count) v ≡ in_one left y.value y.size ++ spans_from s inline (bodies_at s inline left) count y.rest
  unfolding spans_from
  spans_next left count v y e =
      ap (λ (o : Result (Maybe ValueNext)). spans_on s inline (bodies_at s inline left) o (spans_from s inline (bodies_at s inline left) count)) e

  value_down : (left table at count next : ℕ) (x : Value) → table + 4 * suc count ≤ length s → at ≤ length s → value_in s table at ≡ given x next
      → Each Whole (in_one left x (number_of s table 2))
      → Each Whole (spans_from s inline (bodies_at s inline left) count (standing (table + 4) count next))
      → Each Whole (spans_from s inline (bodies_at s inline left) (suc count) (standing table (suc count) at))
  value_down left table at count next x h k e a b =
      subst (Each Whole) (sym (spans_next left count (standing table (suc count) at) (found s table count x next) (next_read s table at count next x h k e)))
      (each_append Whole (in_one left x (number_of s table 2)) (spans_from s inline (bodies_at s inline left) count (standing (table + 4) count next)) a b)

  other_down : (left : ℕ) (x : Value) (size : ℕ) → (x.code ≡ bin_xml → ⊥) → Each Whole (in_one left x size)
  other_down left x size n = either (Each Whole) (eqb x.code bin_xml) _ _ (λ e. absurd (n (eqb-true x.code bin_xml e))) (λ e. tt)

  held_down : (left : ℕ) (x : Value) (size : ℕ) → x.code ≡ bin_xml → Each Whole (bodies_at s inline left x.start (x.start + size))
      → Each Whole (in_one left x size)
  held_down left x size c d = either (Each Whole) (eqb x.code bin_xml) _ _ (λ e. d) (λ e. absurd (eqb-false x.code bin_xml e c))

  -- the values of a window's instance have been read
  values_read : {level n table at count last : ℕ} {l : List Entry} → Values s level inline n table at count l last → values_at s table at count ≡ given tt last
  unfolding values_at
  values_read no_more = refl
  values_read {table = table} (another {count = count} e h x) = ap (λ (a : Answer Value). a then λ _ next. values_at s (table + 4) next count) e ∙ values_read x
  values_read {table = table} (w.Values.a_body {count = count} e h b x q) =
      ap (λ (a : Answer Value). a then λ _ next. values_at s (table + 4) next count) e ∙ values_read x

module _ (s : List ℕ) where
  -- a turn under flags that carry no dependencies
  same_sight : (end at : ℕ) (f : Flags) (x : Answer Seen) → f ≡ inner_flags f.inline → sight_at s end f at ≡ x
      → sight_at s end (inner_flags f.inline) at ≡ x
  same_sight end at f x c e = subst (λ (g : Flags). sight_at s end g at ≡ x) c e

  mutual
    window_down : {level n start end : ℕ} {f : Flags} {l : List Entry} → Window s level f n start end l → f ≡ inner_flags f.inline
        → Down s f.inline (root_at s f.inline end start)
    window_down (window d x i r e) c = walk_down x c

    walk_down : {level end n at last : ℕ} {f : Flags} {l : List Own} → Walk s level end f n at l last → f ≡ inner_flags f.inline
        → Down s f.inline (root_at s f.inline end at)
    walk_down {end = end} {at = at} {f = f} (a_token {next = next} {t = t} e q x) c =
        token_down s f.inline end at next t (is_instruction t.kind) refl (same_sight end at f _ c e) (walk_down x c)
    walk_down {end = end} {at = at} {f = f} (an_instance {next = next} {m = m} {i = i} e v q x) c =
        let g = subst (Sees at (length s)) e (sight_sees s end f at) in
        subst (Down s f.inline) (sym (root_is s f.inline end at (given (begun i) next) (same_sight end at f _ c e))) (
          value_below_count s end f at next m i e (values_read s f.inline v),
          λ left.
              subst
              (λ (n : ℕ). Each (Whole s f.inline) (spans_from s f.inline (bodies_at s f.inline left) i.count (standing i.table i.count n)))
              (sym g.3) (values_down left v g.2 g.1),
        )
    walk_down {end = end} {at = at} {f = f} (a_header {next = next} e x) c =
        subst (Down s f.inline) (sym (root_header s f.inline end at next (same_sight end at f _ c e))) (walk_down x c)
    walk_down {end = end} {at = at} {last = last} {f = f} (its_end e) c =
        subst (Down s f.inline) (sym (root_is s f.inline end at (given (met over) last) (same_sight end at f _ c e))) (element_down s f.inline)

    values_down : {level n table at count last : ℕ} {inline : Bool} {l : List Entry} (left : ℕ) → Values s level inline n table at count l last
        → table + 4 * count ≤ length s → at ≤ length s
        → Each (Whole s inline) (spans_from s inline (bodies_at s inline left) count (standing table count at))
    values_down {table = table} {at = at} {inline = inline} left no_more h k = none_down s inline left (standing table 0 at)
    values_down {table = table} {at = at} {inline = inline} left (another {next = next} {count = count} {v = v} e n x) h k =
        value_down s inline left table at count next v h k e (other_down s inline left v (number_of s table 2) n)
        (values_down left x (omega arith) (value_spans s table at v next k e).2)
    values_down {table = table} {at = at} {inline = inline} left (w.Values.a_body {next = next} {count = count} {v = v} e c b x q) h k =
        value_down s inline left table at count next v h k e
        (held_down s inline left v (number_of s table 2) c (body_down s inline left v.start (v.start + number_of s table 2) (window_down b refl)))
        (values_down left x (omega arith) (value_spans s table at v next k e).2)

-- every body of a window has its values
pub bodies_whole : {s : List ℕ} {level n start end : ℕ} {l : List Entry} (inline : Bool) (left : ℕ) → Window s level (inner_flags inline) n start end l
    → Each (Whole s inline) (bodies_at s inline left start end)
bodies_whole {s = s} {start = start} {end = end} inline left x = body_down s inline left start end (window_down s x refl)
