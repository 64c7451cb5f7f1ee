-- The answer words of the calls of an event and of a definition lose nothing: refusals are as small as the walk's, and there are at most 2^32 rows.
-- Assumes nothing.
use mathlib.Core.Path.{◌≡◌, refl, sym, ap, subst, ◌∙◌}
use mathlib.Core.Bool.{Bool}
use mathlib.Core.List.{List, [], ◌∷◌}
use Prim.Native.Nat.{ℕ, suc, ◌+◌, ◌-◌, ◌*◌, ◌^◌, ◌≤◌, ◌<◌}
use native.Mathlib.Nat.{mul-le-mul}
use native.Mathlib.Omega.{arith}
use lib.Dec.{eqb, leb}
use lib.ListN.{length}
use Rattle.cursor.specs.Answer.{Result, gives, refuses}
use Rattle.cursor.specs.Lent.{lent_answer}
use Rattle.cursor.proofs.Choice.{either}
use Rattle.tokens.specs.Token.{instance_kind}
use Rattle.tokens.specs.Walk.{Walked, ok, bad, walk_at}
use Rattle.tokens.specs.declared.Flags.{Flags}
use Rattle.tokens.specs.declared.Instance.{Instance}
use Rattle.tokens.specs.declared.Token.{Token}
use Rattle.tokens.proofs.Steps.{Inside, All, AllInside, walk_inside}
use Rattle.sheet.specs.Sheet.{mark_of, marks_of}
use Rattle.body.specs.Reader.{verdict_on}
use Rattle.body.specs.Verdict.{Verdict, a_body}
use Rattle.body.specs.Verdict as verdict
use Rattle.body.proofs.Answers.{verdict_right}
use Rattle.nest.specs.Nested.{deepest_body, inner_flags, Entry, nested_of}
use Rattle.event.specs.Accepted.{Each}
use Rattle.event.specs.Event.{Span, Text, definition_flags, definition_of, is_item, is_past, hung_at, row_with, item_told, joined, followed_by, rows_from, text_rows, root_mark, root_at, bodies_at, judged_text, text_by, text_within, text_on, text_of, rows_of, rows_in, event_of, event_answer, Events, definition_at_place, definition_words}
use Rattle.event.specs.declared.text.Root.{Root}
use Rattle.event.specs.declared.text.Root.TheVariants as R
use Rattle.event.proofs.Spans.{Rows, bodies_few, rows_few}
use Rattle.doortumble.specs.Calls.{packed_of}
use Rattle.event_call.specs.Calls.{EventPacked}
use Rattle.promises.specs.Nests.{Says}
use Rattle.promises.specs.Packed.{unpacked_of, Bytes}
use Rattle.promises.proofs.Fits.{Small}
use Rattle.promises.proofs.FitsEvent.{OffsetFits, OfRoot, OwnFits, definition_fits, place_fits, root_fits, Starts, bodies_start}
use Rattle.promises.proofs.FitsWalk.{WalkFits, at_fits}
use Rattle.promises.proofs.Packed.{InBits, answer_kept, small_bits, grammar_small, marks_short}
use Rattle.promises.proofs.PackedNest.{SmallIf, nested_small}

-- one word
words_bits : (high : ℕ) (x : Result (ℕ × ℕ)) (lent : List ℕ) → OwnFits high x → InBits (lent_answer (definition_words x) lent)
words_bits high (gives (from, to)) lent h = either InBits (leb 1 (length lent)) _ _ (λ e. omega arith) (λ e. (omega arith, omega arith))
words_bits high (refuses k p) lent h = small_bits k p h

-- A stream of bytes, and any place of 32 bits: every answer.
module _ (s : List ℕ) (bytes : Bytes s) (place : ℕ) (u32 : place < 2 ^ 32) (lent : List ℕ) where
  -- the answer comes back
  pub definition_kept : unpacked_of (packed_of (lent_answer (definition_words (definition_at_place s place)) lent))
      ≡ lent_answer (definition_words (definition_at_place s place)) lent
  definition_kept = answer_kept _ (words_bits (length s) (definition_at_place s place) lent (place_fits s bytes place u32))

  -- so what a caller takes from the call's word is the answer
  pub definition_told : (word : ℕ) → word ≡ packed_of (lent_answer (definition_words (definition_at_place s place)) lent)
      → unpacked_of word ≡ lent_answer (definition_words (definition_at_place s place)) lent
  definition_told word e = ap unpacked_of e ∙ definition_kept

-- a text whose tokens stand in the stream, or a small refusal
abbrev TextFits : ℕ → Result Text → Type 0
TextFits high (gives x) = All (Inside high) x.tokens
TextFits high (refuses k p) = Small k p

judged_fits : (high : ℕ) (root : Root) (l : List Token) {v : Result (List ℕ)} → Verdict (marks_of l) v → OfRoot root → All (Inside high) l → length l ≤ 65536
    → TextFits high (judged_text root l v)
judged_fits high (R.Instance i) l (a_body words x) o h n =
    either (TextFits high) (eqb (root_mark (marks_of l)) instance_kind) _ _ (λ e. (omega arith, omega (arith, o))) (λ e. h)
judged_fits high (R.Instance i) l (verdict.refused k p x) o h n = (omega arith, omega (arith, o))
judged_fits high R.Element l (a_body words x) o h n = h
judged_fits high R.Element l (verdict.refused k p x) o h n = grammar_small (marks_of l) x (marks_short l n)

-- rows are refused where a token is past the count, at its place
joined_small : (a : List ℕ) (r : Result (List ℕ)) → SmallIf r → SmallIf (joined a r)
joined_small a (gives b) h = tt {0}
joined_small a (refuses k p) h = h

followed_small : (x y : Result (List ℕ)) → SmallIf x → SmallIf y → SmallIf (followed_by x y)
followed_small (gives a) y h k = joined_small a y k
followed_small (refuses k p) y h i = h

module _ (s : List ℕ) (high : ℕ) (short : high ≤ 65536) where
  from_small : (x : Text) (b k : ℕ) (l : List Token) → All (Inside high) l → SmallIf (rows_from s x b k l)
  unfolding rows_from
  from_small x b k [] h = tt {0}
  from_small x b k (t ∷ l) h =
      let r = from_small x b (suc k) l h.1 in
      either SmallIf (is_item (mark_of t)) _ _
      (λ e. either SmallIf (is_past x.root t) _ _ (λ d. (omega arith, omega (arith, h.0.0, h.0.1)))
      (λ d. joined_small (row_with b k (hung_at x k) t (item_told s x.root t)) (rows_from s x b (suc k) l) r))
      (λ e. r)

  text_small : (b : ℕ) (x : Result Text) → TextFits high x → SmallIf (text_rows s b x)
  text_small b (gives x) h = from_small x b 0 x.tokens h
  text_small b (refuses k p) h = h

module _ (judge : List ℕ → Result (List ℕ)) (says : Says judge) where
  by_walk : (high : ℕ) (root : Root) (w : Walked) → OfRoot root → AllInside high w → WalkFits 65536 w → TextFits high (text_by judge root w)
  by_walk high root (ok l) o h n = judged_fits high root l (says (marks_of l)) o h n
  by_walk high root (bad k p) o h n = n

  module _ (s : List ℕ) (bytes : Bytes s) (short : length s ≤ 65536) (inline : Bool) where
    walked : (root : Root) (end : ℕ) (f : Flags) (at : ℕ) → OfRoot root → at ≤ length s → TextFits (length s) (text_by judge root (walk_at s end f at))
    walked root end f at o h =
        by_walk (length s) root (walk_at s end f at) o (walk_inside s end f (suc (length s - at)) at) (at_fits s bytes short end f at h)

    in_definition : (i : Instance) (d : Result (ℕ × ℕ)) → OffsetFits i → OwnFits (length s) d → TextFits (length s) (text_within judge s inline i d)
    in_definition i (gives (from, to)) o h = walked (R.Instance i) to (definition_flags inline) from o h
    in_definition i (refuses k p) o h = h

    by_root : (x : Span) (root : Root) → Starts s x → OfRoot root → TextFits (length s) (text_on judge s inline x root)
    by_root x (R.Instance i) h o = in_definition i (definition_of s i) o (definition_fits s bytes short i o)
    by_root x R.Element h o = walked R.Element x.end (inner_flags inline) x.start o h

    rows_small : (b : ℕ) (l : List Span) → Each (Starts s) l → SmallIf (rows_of judge s inline b l)
    unfolding rows_of
    rows_small b [] h = tt {0}
    rows_small b (x ∷ l) h =
        let root = root_at s inline x.end x.start in
        followed_small (text_rows s b (text_of judge s inline x)) (rows_of judge s inline (suc b) l)
        (text_small s (length s) short b (text_of judge s inline x)
        (by_root x root h.0 (root_fits s inline bytes (suc (length s - x.start)) x.end x.start)))
        (rows_small (suc b) l h.1)

-- the words of at most 2^32 rows, or a small refusal
abbrev pub RowsFit : Result (List ℕ) → Type 0
RowsFit (gives words) = length words ≤ 65536 * 65536 * 6
RowsFit (refuses k p) = Small k p

rows_fit : (n : ℕ) (r : Result (List ℕ)) → n ≤ 65536 * 65536 → Rows n r → SmallIf r → RowsFit r
rows_fit n (gives words) h x y = omega (arith, h, x)
rows_fit n (refuses k p) h x y = y

event_bits : (lent : List ℕ) (r : Result (List ℕ)) → RowsFit r → InBits (event_answer r lent)
event_bits lent (gives words) h =
    either InBits (leb (length words) (length lent)) _ _ (λ e. omega (arith, h)) (λ e. (omega arith, omega (arith, h)))
event_bits lent (refuses k p) h = small_bits k p h

-- A stream of bytes, from a start of 32 bits: every answer, whatever the length and the kind of names.
module _ (s : List ℕ) (bytes : Bytes s) (start len : ℕ) (u32 : start < 2 ^ 32) (inline : Bool) where
  by_nest : (x : Result (List Entry)) → nested_of verdict_on s start len (inner_flags inline) ≡ x → SmallIf x
      → RowsFit (rows_in verdict_on s inline x (bodies_at s inline deepest_body start (start + len)))
  by_nest (gives l) e h =
      let bodies = bodies_at s inline deepest_body start (start + len) in
      let few = bodies_few s inline start len l e in
      rows_fit (length bodies * length s) (rows_of verdict_on s inline 0 bodies) (mul-le-mul few.2 few.1) (rows_few s verdict_on inline 0 bodies)
      (rows_small verdict_on verdict_right s bytes few.1 inline 0 bodies (bodies_start s inline deepest_body start (start + len) few.0))
  by_nest (refuses k p) e h = h

  pub event_fits : RowsFit (event_of verdict_on s inline start len)
  event_fits =
      let f = inner_flags inline in
      by_nest (nested_of verdict_on s start len f) refl (nested_small verdict_on verdict_right s bytes start len f u32)

  -- the answer comes back
  pub event_kept : (lent left : List ℕ) (c : Result ℕ) → Events s start len inline lent left c → unpacked_of (packed_of c) ≡ c
  event_kept lent left c x =
      answer_kept c (subst InBits (sym (x verdict_on verdict_right).0) (event_bits lent (event_of verdict_on s inline start len) event_fits))

  -- so what a caller takes from the call's word is the answer that the definition allows
  pub event_told : (lent left : List ℕ) (word : ℕ) → EventPacked s start len inline lent left word → Events s start len inline lent left (unpacked_of word)
  event_told lent left word (c, (e, x)) =
      subst (Events s start len inline lent left) (sym (ap unpacked_of e ∙ event_kept lent left c x)) x
