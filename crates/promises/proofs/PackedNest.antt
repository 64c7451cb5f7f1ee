-- The answer word of the call of bodies inside values loses nothing: each token has a byte of its own, so that no number of a token is larger than
-- the stream, and the other refusals are as small as the walk's. Assumes nothing.
use mathlib.Core.Path.{◌≡◌, refl, sym, ap, subst, ◌∙◌}
use mathlib.Core.Bool.{Bool, true, false, ◌&&◌}
use mathlib.Core.List.{List, [], ◌∷◌, ◌++◌}
use Prim.Native.Nat.{ℕ, zero, suc, ◌+◌, ◌-◌, ◌^◌, ◌≤◌, ◌<◌}
use native.Mathlib.Omega.{arith}
use borrow.Author.Tests.{leb-true}
use lib.Dec.{eqb, leb, ltb}
use lib.ListN.{length, get_or, length-append, length-map}
use Rattle.cursor.specs.Answer.{Answer, given, refused, Result, gives, refuses, ◌then◌}
use Rattle.cursor.specs.Reads.{number_of}
use Rattle.cursor.proofs.Choice.{either}
use Rattle.value.proofs.Bounds.{Between}
use Rattle.value.specs.declared.Value.{Value}
use Rattle.tokens.specs.Instance.{value_in}
use Rattle.tokens.specs.Sight.{Seen, begun, met, sight_at}
use Rattle.tokens.specs.Walk.{handed, header, over}
use Rattle.tokens.specs.declared.Flags.{Flags}
use Rattle.tokens.specs.declared.Instance.{Instance}
use Rattle.tokens.specs.declared.Token.{Token}
use Rattle.tokens.proofs.Sights.{Sees, sight_sees}
use Rattle.sheet.specs.Sheet.{marks_of}
use Rattle.body.specs.Reader.{verdict_on}
use Rattle.body.specs.Verdict.{Verdict, a_body, Both, both, both_answer}
use Rattle.body.specs.Verdict as verdict
use Rattle.body.proofs.Answers.{verdict_right}
use Rattle.nest.specs.Nested.{bin_xml, deepest_body, Entry, Own, own, Inner, held_in, reading_on, values_from, held_by, onward, nest_from, nest_at, numbers_from, tokens_of, by_numbers, inner_flags, closed_at, body_at, in_window, nested_of, sheet_of, owners_of, both_words, Nested}
use Rattle.nest.proofs.Nesting.{values_between}
use Rattle.nest.proofs.Stacks.{sheet_length}
use Rattle.nest.proofs.Values.{value_spans}
use Rattle.doortumble.specs.Calls.{packed_of}
use Rattle.nest_call.specs.Calls.{BodiesPacked}
use Rattle.promises.specs.Nests.{Says}
use Rattle.promises.specs.Packed.{unpacked_of, Bytes}
use Rattle.promises.proofs.Fits.{Small, Fits}
use Rattle.promises.proofs.FitsWalk.{value, sight_fits}
use Rattle.promises.proofs.NestRise.{rises_few, Held, Lies, held_rises, body_lies, places_rise}
use Rattle.promises.proofs.NestTurns.{instance_of}
use Rattle.promises.proofs.Packed.{InBits, answer_kept, small_bits, grammar_refusal, both_bits}

-- a refusal that is small, or none
abbrev pub SmallIf : {A : Type 0} → Result A → Type 0
SmallIf (gives a) = Unit {0}
SmallIf (refuses k p) = Small k p

-- so many tokens before these, and these, up to a position
abbrev HeldCount : ℕ → ℕ → Result (List Entry) → Type 0
HeldCount n next (gives l) = n + length l ≤ next
HeldCount n next (refuses k p) = Small k p

abbrev ValuesCount : ℕ → Answer (List Entry) → Type 0
ValuesCount n (given l last) = n + length l ≤ last
ValuesCount n (refused k p) = Small k p

-- the numbers of a walk's own tokens
abbrev NumbersFit : ℕ → ℕ → Answer (List Own) → Type 0
NumbersFit high n (given l last) = (p : ℕ) → get_or (numbers_from n l) p 0 ≤ high
NumbersFit high n (refused k p) = Small k p

held_count : (n at next : ℕ) (r : Result (List Entry)) → n ≤ at → at ≤ next → Held at next r → SmallIf r → HeldCount n next r
held_count n at next (gives l) h k x y = omega (arith, rises_few at next l k x)
held_count n at next (refuses k p) h i x y = y

rest_count : (n : ℕ) (l : List Entry) (y : Answer (List Entry)) → ValuesCount (n + length l) y → ValuesCount n (y then λ m last. given (l ++ m) last)
rest_count n l (given m last) x = omega (arith, length-append l m, x)
rest_count n l (refused k p) x = x

-- a token before others, and no token
own_numbers : (high n : ℕ) (t : Token) (l : List Entry) (a : Answer (List Own)) → n ≤ high → NumbersFit high (suc n + length l) a
    → NumbersFit high n (a then λ r last. given (own t l ∷ r) last)
own_numbers high n t l (given r last) h x = by_number
  where
    by_number : (p : ℕ) → get_or (n ∷ numbers_from (suc n + length l) r) p 0 ≤ high
    by_number zero = h
    by_number (suc p) = x p
own_numbers high n t l (refused k p) h x = x

last_number : (high n : ℕ) → n ≤ high → (p : ℕ) → get_or (n ∷ []) p 0 ≤ high
last_number high n h zero = h
last_number high n h (suc p) = omega arith

-- the body in a value that starts after as many bytes as there are tokens before it
abbrev InnerSmall : List ℕ → Inner → Type 0
InnerSmall s inner = (n start size : ℕ) → n ≤ start → start ≤ length s → SmallIf (inner n start size)

module _ (s : List ℕ) (bytes : Bytes s) (short : length s ≤ 65536) (inner : Inner) (lies : Lies s inner) (small : InnerSmall s inner) where
  held_small : (b : Bool) (n start size at : ℕ) → start ≡ at → n ≤ at → at ≤ length s → SmallIf (held_in inner b n start size)
  held_small true n start size at e h k = small n start size (omega (arith, e)) (omega (arith, e))
  held_small false n start size at e h k = tt {0}

  after_held : (count n table next : ℕ) (r : Result (List Entry)) → HeldCount n next r
      → ((m : ℕ) → m ≤ next → ValuesCount m (values_from s inner m (table + 4) next count))
      → ValuesCount n (reading_on r next then λ l next. values_from s inner (n + length l) (table + 4) next count then λ m last. given (l ++ m) last)
  after_held count n table next (gives l) h go = rest_count n l (values_from s inner (n + length l) (table + 4) next count) (go (n + length l) h)
  after_held count n table next (refuses k p) h go = h

  after_value : (count n table at : ℕ) (x : Answer Value) → value_in s table at ≡ x → Fits (length s) x → n ≤ at → at ≤ length s
      → ((m next : ℕ) → m ≤ next → next ≤ length s → ValuesCount m (values_from s inner m (table + 4) next count))
      → ValuesCount n
      (x then λ v next.
      reading_on (held_in inner (eqb v.code bin_xml) n v.start (number_of s table 2)) next then λ l next.
      values_from s inner (n + length l) (table + 4) next count then λ m last.
      given (l ++ m) last)
  after_value count n table at (given v next) e f i h go =
      let w = value_spans s table at v next h e in
      let b = eqb v.code bin_xml in
      let size = number_of s table 2 in
      after_held count n table next (held_in inner b n v.start size)
      (held_count n at next (held_in inner b n v.start size) i (omega (arith, w.1)) (held_rises s inner lies b n v.start size at next w.0 w.1 h)
      (held_small b n v.start size at w.0 i h))
      (λ m j. go m next j w.2)
  after_value count n table at (refused k p) e f i h go = f

  values_count : (count n table at : ℕ) → n ≤ at → at ≤ length s → ValuesCount n (values_from s inner n table at count)
  unfolding values_from
  values_count zero n table at i h = omega arith
  values_count (suc count) n table at i h =
      after_value count n table at (value_in s table at) refl (value s bytes short table at h) i h (λ m next j k. values_count count m (table + 4) next j k)

  module _ (end : ℕ) (f : Flags) where
    after_values : (n at : ℕ) (i : Instance) (next : ℕ) (y : Answer (List Entry)) (go : ℕ → ℕ → Answer (List Own)) → n ≤ length s
        → Between next (length s) y → ValuesCount (suc n) y → ((m last : ℕ) → m ≤ last → last ≤ length s → NumbersFit (length s) m (go m last))
        → NumbersFit (length s) n (onward s inner n (y then λ l last. given (handed (instance_of i at last), l) last) go)
    after_values n at i next (given l last) go h b x to =
        own_numbers (length s) n (instance_of i at last) l (go (suc n + length l) last) h (to (suc n + length l) last x b.1)
    after_values n at i next (refused k p) go h b x to = x

    after_seen : (n at : ℕ) (x : Answer Seen) (go : ℕ → ℕ → Answer (List Own)) → Sees at (length s) x → Fits (length s) x → n ≤ at → at ≤ length s
        → ((m next : ℕ) → m ≤ next → next ≤ length s → NumbersFit (length s) m (go m next))
        → NumbersFit (length s) n (onward s inner n (x then held_by s inner n at) go)
    after_seen n at (given (begun i) next) go g r j h to =
        after_values n at i next (values_from s inner (suc n) i.table next i.count) go (omega arith)
        (values_between s inner i.count (suc n) i.table next g.1) (values_count i.count (suc n) i.table next (omega (arith, g.0)) g.1) to
    after_seen n at (given (met (handed t)) next) go g r j h to =
        own_numbers (length s) n t [] (go (suc n + 0) next) (omega arith) (to (suc n + 0) next (omega (arith, g.0)) g.1)
    after_seen n at (given (met header) next) go g r j h to = to n next (omega (arith, g.0)) g.1
    after_seen n at (given (met over) next) go g r j h to = last_number (length s) n (omega arith)
    after_seen n at (refused k p) go g r j h to = r

    nest_numbers : (turns n at : ℕ) → n ≤ at → at ≤ length s → NumbersFit (length s) n (nest_from s inner turns end f n at)
    unfolding nest_from
    nest_numbers zero n at j h = last_number (length s) n (omega arith)
    nest_numbers (suc turns) n at j h =
        after_seen n at (sight_at s end f at) (nest_from s inner turns end f) (sight_sees s end f at) (sight_fits s bytes short end f at h) j h
        (λ m next i k. nest_numbers turns m next i k)

-- a grammar's refusal has one of these numbers for its place
numbered_small : (level : ℕ) (numbers marks : List ℕ) (l : List Own) {v : Result (List ℕ)} → Verdict marks v → ((p : ℕ) → get_or numbers p 0 ≤ 65536)
    → SmallIf (by_numbers level numbers l v)
numbered_small level numbers marks l (a_body words x) h = tt {0}
numbered_small level numbers marks l (verdict.refused k p x) h = ((grammar_refusal marks x).0, omega (arith, h p))

module _ (judge : List ℕ → Result (List ℕ)) (says : Says judge) where
  closed_small : (high level : ℕ) (inside : Bool) (n start end : ℕ) (a : Answer (List Own)) → high ≤ 65536 → start ≤ high → NumbersFit high n a
      → SmallIf (closed_at judge level inside n start end a)
  closed_small high level inside n start end (given l last) h k x =
      either SmallIf (inside && ltb end last) _ _ (λ e. (omega arith, omega arith))
      (λ e. numbered_small level (numbers_from n l) (marks_of (tokens_of l)) l (says (marks_of (tokens_of l))) (λ p. omega (arith, x p)))
  closed_small high level inside n start end (refused k p) h i x = x

  module _ (s : List ℕ) (bytes : Bytes s) where
    body_small : length s ≤ 65536 → (left : ℕ) (inline : Bool) → InnerSmall s (body_at judge s inline left)
    unfolding body_at
    body_small short zero inline n start size i h = (omega arith, omega arith)
    body_small short (suc left) inline n start size i h =
        let inner = body_at judge s inline left in
        closed_small (length s) (deepest_body - left) true n start (start + size) (nest_at s inner (start + size) (inner_flags inline) n start) short h
        (nest_numbers s bytes short inner (body_lies judge s left inline) (body_small short left inline) (start + size) (inner_flags inline)
        (suc (length s - start)) n start i h)

    -- every refusal, from a start of 32 bits
    pub nested_small : (start len : ℕ) (f : Flags) → start < 2 ^ 32 → SmallIf (nested_of judge s start len f)
    nested_small start len f u32 =
        let inner = body_at judge s f.inline deepest_body in
        either (λ (x : Result (ℕ × ℕ)). SmallIf (in_window judge s f x)) (leb (length s) 65536) _ _
        (λ a. either (λ (x : Result (ℕ × ℕ)). SmallIf (in_window judge s f x)) (leb start (length s)) _ _
        (λ b.
        let short = leb-true (length s) 65536 a in
        let h = leb-true start (length s) b in
        closed_small (length s) 0 false 0 start (start + len) (nest_at s inner (start + len) f 0 start) short h
        (nest_numbers s bytes short inner (body_lies judge s deepest_body f.inline) (body_small short deepest_body f.inline) (start + len) f
        (suc (length s - start)) 0 start (omega arith) h))
        (λ b. (omega arith, omega arith)))
        (λ a. (omega arith, omega arith))

-- two words in the sheet and one in the table for each token
entries_bits : (lent : Both) (x : Result (List Entry)) → ((l : List Entry) → x ≡ gives l → length l ≤ 65536) → SmallIf x
    → InBits (both_answer (both_words x) lent)
entries_bits lent (gives l) few h =
    let n = few l refl in
    both_bits (both (sheet_of l) (owners_of l)) lent (omega (arith, sheet_length l)) (omega (arith, length-map l (λ e. e.word)))
entries_bits lent (refuses k p) few h = small_bits k p h

-- A stream of bytes, from a start of 32 bits: every answer, whatever the length and the flags say.
module _ (s : List ℕ) (bytes : Bytes s) (start len : ℕ) (u32 : start < 2 ^ 32) (f : Flags) where
  -- the answer comes back
  pub bodies_kept : (lent left : Both) (c : Result ℕ) → Nested s start len f lent left c → unpacked_of (packed_of c) ≡ c
  bodies_kept lent left c x =
      answer_kept c
      (subst InBits (sym (x verdict_on verdict_right).0)
      (entries_bits lent (nested_of verdict_on s start len f) (λ l e. (places_rise verdict_on s start len f l e).1) (nested_small verdict_on verdict_right s bytes start len f u32)))

  -- so what a caller takes from the call's word is the answer that the definition allows
  pub bodies_told : (lent left : Both) (word : ℕ) → BodiesPacked s start len f lent left word → Nested s start len f lent left (unpacked_of word)
  bodies_told lent left word (c, (e, x)) =
      subst (Nested s start len f lent left) (sym (ap unpacked_of e ∙ bodies_kept lent left c x)) x
