-- What is accepted is a window whose tokens and whose values' bodies are in order. Assumes nothing.
use mathlib.Core.Path.{◌≡◌, refl, subst}
use mathlib.Core.Bool.{Bool, true, false}
use mathlib.Core.List.{List, [], ◌∷◌, ◌++◌}
use Prim.Native.Nat.{ℕ, zero, suc, ◌+◌, ◌-◌, ◌≤◌, ◌<◌}
use native.Mathlib.Omega.{arith}
use borrow.Author.Tests.{ltb-false, eqb-true, eqb-false}
use lib.Dec.{eqb, ltb}
use lib.ListN.{length}
use Rattle.cursor.specs.Answer.{Answer, given, refused, Result, gives, refuses, ◌then◌}
use Rattle.cursor.specs.Reads.{number_of}
use Rattle.cursor.proofs.Choice.{either}
use Rattle.value.proofs.Bounds.{Between}
use Rattle.value.specs.declared.Value.{Value}
use Rattle.tokens.specs.Instance.{value_in}
use Rattle.tokens.specs.Sight.{Seen, begun, met, sight_at}
use Rattle.tokens.specs.Walk.{handed, header, over}
use Rattle.tokens.specs.declared.Flags.{Flags}
use Rattle.tokens.specs.declared.Instance.{Instance}
use Rattle.tokens.specs.declared.Token.{Token}
use Rattle.tokens.proofs.Sights.{Sees, sight_sees}
use Rattle.sheet.specs.Sheet.{marks_of}
use Rattle.body.specs.Verdict.{Verdict, a_body}
use Rattle.nest.specs.Nested.{bin_xml, deepest_body, Entry, Own, own, Inner, held_in, reading_on, values_from, held_by, onward, nest_from, nest_at, tokens_of, numbers_from, by_numbers, inner_flags, closed_at, body_at}
use Rattle.promises.specs.Nests.{Says}
use Rattle.promises.specs.NestWindows as w
use Rattle.promises.specs.NestWindows.{Window, window, Walk, a_token, an_instance, a_header, its_end, Values, no_more, another}
use Rattle.nest.proofs.Nesting.{values_between}
use Rattle.promises.proofs.NestTurns.{instance_of}

-- of a result, and of what was read of values and of a walk
abbrev pub IsWindow : List ℕ → ℕ → Flags → ℕ → ℕ → ℕ → Result (List Entry) → Type 0
IsWindow s level f n start end (gives l) = Window s level f n start end l
IsWindow s level f n start end (refuses k p) = Unit {0}

abbrev AreValues : List ℕ → ℕ → Bool → ℕ → ℕ → ℕ → ℕ → Answer (List Entry) → Type 0
AreValues s level inline n table at count (given l last) = Values s level inline n table at count l last
AreValues s level inline n table at count (refused k p) = Unit {0}

abbrev pub IsWalk : List ℕ → ℕ → ℕ → Flags → ℕ → ℕ → Answer (List Own) → Type 0
IsWalk s level end f n at (given l last) = Walk s level end f n at l last
IsWalk s level end f n at (refused k p) = Unit {0}

module _ (s : List ℕ) (level : ℕ) (inline : Bool) (inner : Inner)
    (sound : (n start size : ℕ) → IsWindow s (suc level) (inner_flags inline) n start (start + size) (inner n start size)) where
  -- the rest after a value, and after the body in one
  rest_other : (n table at next count : ℕ) (v : Value) (y : Answer (List Entry)) → value_in s table at ≡ given v next → (v.code ≡ bin_xml → ⊥)
      → AreValues s level inline n (table + 4) next count y → AreValues s level inline n table at (suc count) (y then λ m last. given ([] ++ m) last)
  rest_other n table at next count v (given m last) e h x = another e h x
  rest_other n table at next count v (refused k p) e h x = tt {0}

  rest_body : (n table at next count : ℕ) (v : Value) (l : List Entry) (y : Answer (List Entry)) → value_in s table at ≡ given v next → v.code ≡ bin_xml
      → Window s (suc level) (inner_flags inline) n v.start (v.start + number_of s table 2) l
      → AreValues s level inline (n + length l) (table + 4) next count y → AreValues s level inline n table at (suc count) (y then λ m last. given (l ++ m) last)
  rest_body n table at next count v l (given m last) e h b x = w.Values.a_body e h b x refl
  rest_body n table at next count v l (refused k p) e h b x = tt {0}

  after_body : (n table at next count : ℕ) (v : Value) (r : Result (List Entry)) → value_in s table at ≡ given v next → v.code ≡ bin_xml
      → IsWindow s (suc level) (inner_flags inline) n v.start (v.start + number_of s table 2) r
      → ((m : ℕ) → AreValues s level inline m (table + 4) next count (values_from s inner m (table + 4) next count))
      → AreValues s level inline n table at (suc count)
      (reading_on r next then λ l next. values_from s inner (n + length l) (table + 4) next count then λ m last. given (l ++ m) last)
  after_body n table at next count v (gives l) e h b go =
      rest_body n table at next count v l (values_from s inner (n + length l) (table + 4) next count) e h b (go (n + length l))
  after_body n table at next count v (refuses k p) e h b go = tt {0}

  none_more : (n : ℕ) → n + 0 ≡ n
  none_more n = omega arith

  by_type : (n table at next count : ℕ) (v : Value) (b : Bool) → eqb v.code bin_xml ≡ b → value_in s table at ≡ given v next
      → ((m : ℕ) → AreValues s level inline m (table + 4) next count (values_from s inner m (table + 4) next count))
      → AreValues s level inline n table at (suc count)
      (reading_on (held_in inner b n v.start (number_of s table 2)) next then λ l next.
      values_from s inner (n + length l) (table + 4) next count then λ m last.
      given (l ++ m) last)
  by_type n table at next count v true t e go =
      after_body n table at next count v (inner n v.start (number_of s table 2)) e (eqb-true v.code bin_xml t) (sound n v.start (number_of s table 2)) go
  by_type n table at next count v false t e go =
      rest_other n table at next count v (values_from s inner (n + 0) (table + 4) next count) e (eqb-false v.code bin_xml t)
      (subst (λ (z : ℕ). AreValues s level inline z (table + 4) next count (values_from s inner (n + 0) (table + 4) next count)) (none_more n) (go (n + 0)))

  after_value : (n table at count : ℕ) (x : Answer Value) → value_in s table at ≡ x
      → ((m next : ℕ) → AreValues s level inline m (table + 4) next count (values_from s inner m (table + 4) next count))
      → AreValues s level inline n table at (suc count)
      (x then λ v next.
      reading_on (held_in inner (eqb v.code bin_xml) n v.start (number_of s table 2)) next then λ l next.
      values_from s inner (n + length l) (table + 4) next count then λ m last.
      given (l ++ m) last)
  after_value n table at count (given v next) e go = by_type n table at next count v (eqb v.code bin_xml) refl e (λ m. go m next)
  after_value n table at count (refused k p) e go = tt {0}

  values_sound : (count n table at : ℕ) → AreValues s level inline n table at count (values_from s inner n table at count)
  unfolding values_from
  values_sound zero n table at = no_more
  values_sound (suc count) n table at = after_value n table at count (value_in s table at) refl (λ m next. values_sound count m (table + 4) next)

module _ (s : List ℕ) (level : ℕ) (end : ℕ) (f : Flags) (inner : Inner)
    (sound : (n start size : ℕ) → IsWindow s (suc level) (inner_flags f.inline) n start (start + size) (inner n start size)) where
  token_first : (n at next : ℕ) (t : Token) (y : Answer (List Own)) → sight_at s end f at ≡ given (met (handed t)) next → IsWalk s level end f (suc n) next y
      → IsWalk s level end f n at (y then λ r last. given (own t [] ∷ r) last)
  token_first n at next t (given r last) e x = a_token e refl x
  token_first n at next t (refused k p) e x = tt {0}

  header_first : (n at next : ℕ) (y : Answer (List Own)) → sight_at s end f at ≡ given (met header) next → IsWalk s level end f n next y → IsWalk s level end f n at y
  header_first n at next (given r last) e x = a_header e x
  header_first n at next (refused k p) e x = tt {0}

  instance_first : (n at next m : ℕ) (i : Instance) (l : List Entry) (y : Answer (List Own)) → sight_at s end f at ≡ given (begun i) next
      → Values s level f.inline (suc n) i.table next i.count l m → IsWalk s level end f (suc n + length l) m y
      → IsWalk s level end f n at (y then λ r last. given (own (instance_of i at m) l ∷ r) last)
  instance_first n at next m i l (given r last) e v x = an_instance e v refl x
  instance_first n at next m i l (refused k p) e v x = tt {0}

  after_values : (n at next : ℕ) (i : Instance) (y : Answer (List Entry)) (go : ℕ → ℕ → Answer (List Own)) → sight_at s end f at ≡ given (begun i) next
      → AreValues s level f.inline (suc n) i.table next i.count y → at < next → Between next (length s) y
      → ((m last : ℕ) → at < last → last ≤ length s → IsWalk s level end f m last (go m last))
      → IsWalk s level end f n at (onward s inner n (y then λ l last. given (handed (instance_of i at last), l) last) go)
  after_values n at next i (given l last) go e v h b to =
      instance_first n at next last i l (go (suc n + length l) last) e v (to (suc n + length l) last (omega (arith, b.0)) b.1)
  after_values n at next i (refused k p) go e v h b to = tt {0}

  one_more : (n : ℕ) → suc n + 0 ≡ suc n
  one_more n = omega arith

  after_seen : (n at : ℕ) (x : Answer Seen) (go : ℕ → ℕ → Answer (List Own)) → sight_at s end f at ≡ x → Sees at (length s) x
      → ((m next : ℕ) → at < next → next ≤ length s → IsWalk s level end f m next (go m next))
      → IsWalk s level end f n at (onward s inner n (x then held_by s inner n at) go)
  after_seen n at (given (begun i) next) go e g to =
      after_values n at next i (values_from s inner (suc n) i.table next i.count) go e
      (values_sound s level f.inline inner sound i.count (suc n) i.table next) g.0 (values_between s inner i.count (suc n) i.table next g.1) to
  after_seen n at (given (met (handed t)) next) go e g to =
      token_first n at next t (go (suc n + 0) next) e
      (subst (λ (z : ℕ). IsWalk s level end f z next (go (suc n + 0) next)) (one_more n) (to (suc n + 0) next g.0 g.1))
  after_seen n at (given (met header) next) go e g to = header_first n at next (go n next) e (to n next g.0 g.1)
  after_seen n at (given (met over) next) go e g to = its_end e
  after_seen n at (refused k p) go e g to = tt {0}

  from_sound : (turns n at : ℕ) → 0 < turns → length s < at + turns → IsWalk s level end f n at (nest_from s inner turns end f n at)
  unfolding nest_from
  from_sound zero n at a b = absurd (omega arith)
  from_sound (suc turns) n at a b =
      after_seen n at (sight_at s end f at) (nest_from s inner turns end f) refl (sight_sees s end f at)
      (λ m next h k. from_sound turns m next (omega arith) (omega arith))

  pub nest_sound : (n at : ℕ) → IsWalk s level end f n at (nest_at s inner end f n at)
  nest_sound n at = from_sound (suc (length s - at)) n at (omega arith) (omega arith)

module _ (judge : List ℕ → Result (List ℕ)) (says : Says judge) (s : List ℕ) where
  judged_sound : (level n start end last : ℕ) (f : Flags) (l : List Own) (v : Result (List ℕ)) → level ≤ deepest_body → Walk s level end f n start l last
      → (0 < level → last ≤ end) → Verdict (marks_of (tokens_of l)) v → IsWindow s level f n start end (by_numbers level (numbers_from n l) l v)
  judged_sound level n start end last f l (gives words) d x i (a_body o r) = window d x i r refl
  judged_sound level n start end last f l (refuses k p) d x i v = tt {0}

  pub closed_sound : (level n start end : ℕ) (inside : Bool) (f : Flags) (a : Answer (List Own)) → level ≤ deepest_body → (0 < level → inside ≡ true)
      → IsWalk s level end f n start a → IsWindow s level f n start end (closed_at judge level inside n start end a)
  closed_sound level n start end true f (given l last) d h x =
      either (IsWindow s level f n start end) (ltb end last) _ _ (λ e. tt {0})
      (λ e. judged_sound level n start end last f l (judge (marks_of (tokens_of l))) d x (λ z. ltb-false end last e) (says (marks_of (tokens_of l))))
  closed_sound level n start end false f (given l last) d h x =
      judged_sound level n start end last f l (judge (marks_of (tokens_of l))) d x (λ z. let e : ◌≡◌ {A = ℕ} 0 1 = (let q = h z in cc) in absurd (omega arith)) (says (marks_of (tokens_of l)))
  closed_sound level n start end inside f (refused k p) d h x = tt {0}

  next_level : (left : ℕ) → suc left ≤ deepest_body → deepest_body - left ≡ suc (deepest_body - suc left)
  next_level left h = omega arith

  pub body_sound : (left : ℕ) (inline : Bool) → left ≤ deepest_body
      → (n start size : ℕ) → IsWindow s (suc (deepest_body - left)) (inner_flags inline) n start (start + size) (body_at judge s inline left n start size)
  unfolding body_at
  body_sound zero inline h n start size = tt {0}
  body_sound (suc left) inline h n start size =
      subst
      (λ (level : ℕ). IsWindow s level (inner_flags inline) n start (start + size) (body_at judge s inline (suc left) n start size))
      (next_level left h)
      (closed_sound (deepest_body - left) n start (start + size) true (inner_flags inline)
      (nest_at s (body_at judge s inline left) (start + size) (inner_flags inline) n start) (omega arith) (λ z. refl)
      (nest_sound s (deepest_body - left) (start + size) (inner_flags inline) (body_at judge s inline left) (body_sound left inline (omega arith)) n start))
