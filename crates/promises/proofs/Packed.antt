-- The answer word of a C call loses nothing: what a caller takes from it is the answer itself. Assumes nothing.
use mathlib.Core.Path.{◌≡◌, refl, sym, ap, subst, ◌∙◌}
use mathlib.Core.Bool.{Bool, true, false}
use mathlib.Core.List.{List, []}
use Prim.Native.Nat.{ℕ, ◌+◌, ◌*◌, ◌/◌, ◌%◌, ◌^◌, ◌≤◌, ◌<◌}
use native.Mathlib.Omega.{arith}
use lib.Dec.{eqb, leb}
use lib.ListN.{length, length-map}
use Rattle.cursor.specs.Answer.{Answer, given, refused, Result, gives, refuses, must}
use Rattle.cursor.specs.Lent.{lent_answer}
use Rattle.cursor.specs.Reads.{little, starts_with}
use Rattle.cursor.specs.Refusals.{wrong_length, wrong_magic}
use Rattle.cursor.proofs.Choice.{either}
use Rattle.record.specs.Chunk.{fields_at, chunk_size, chunk_magic}
use Rattle.record.specs.declared.Fields.{Fields}
use Rattle.tokens.specs.Instance.{table_at, values_at}
use Rattle.tokens.specs.Table.{gist_at}
use Rattle.tokens.specs.Walk.{Walked, ok, bad, turn_at, step_from, walk_from, walk_of}
use Rattle.tokens.specs.declared.Flags.{Flags}
use Rattle.tokens.specs.declared.Token.{Token}
use Rattle.sheet.specs.Sheet.{words_of, mark_of, marks_of}
use Rattle.sheet.proofs.Laying.{words_length}
use Rattle.body.specs.Verdict.{Refuses, no_body, too_deep, disagreeing, unfinished_body, a_body, Judged, unread, read, Both, both, both_of, followed, both_answer, Answered}
use Rattle.body.specs.Verdict as verdict
use Rattle.body.proofs.Answers.{answer_of}
use Rattle.chunk.specs.Walk.{Choose, start_of}
use Rattle.chunk.specs.Listing.{rows_of, ListsOn, Lists}
use Rattle.chunk.proofs.Laying.{rows_length}
use Rattle.chunk.proofs.Whole.{most_answers_lem}
use Rattle.doortumble.specs.Calls.{flags_of, packed_of, BodyPacked, ListPacked}
use Rattle.promises.specs.Packed.{unpacked_of, Bytes, far_stream}
use Rattle.promises.proofs.Fits.{Small, Fits, on}
use Rattle.promises.proofs.FitsWalk.{WalkFits, walk_fits}

-- an answer whose fields fit in their bits
abbrev pub InBits : Result ℕ → Type 0
InBits (gives n) = n < 2 ^ 40
InBits (refuses k p) = (k < 2 ^ 7) × (p < 2 ^ 40)

abbrev Kept : Result ℕ → Type 0
Kept o = unpacked_of (packed_of o) ≡ o

pub answer_kept : (o : Result ℕ) → InBits o → Kept o
answer_kept (gives n) h =
    let e : n % 2 ^ 40 % 2 ^ 40 ≡ n = omega arith in
    let z : n % 2 ^ 40 / 2 ^ 63 ≡ 0 = omega arith in
    rw z (ap gives e)
answer_kept (refuses k p) h =
    let word = packed_of (refuses k p) in
    let z : word / 2 ^ 63 ≡ 1 = omega (arith, h.0, h.1) in
    let a : word / 2 ^ 56 % 2 ^ 7 ≡ k = omega (arith, h.0, h.1) in
    let b : word % 2 ^ 40 ≡ p = omega (arith, h.0, h.1) in
    rw z (λ i. refuses (a i) (b i))

-- a refusal as the reads give it
pub small_bits : (k p : ℕ) → Small k p → InBits (refuses k p)
small_bits k p h = (h.0, omega (arith, h.1))

-- sheet and owner table: a refusal by the grammar has a token's number for its place, or the number of tokens
pub grammar_refusal : (marks : List ℕ) {k p : ℕ} → Refuses marks k p → (k < 2 ^ 7) × (p ≤ length marks)
grammar_refusal marks (no_body i x) = (omega arith, omega (arith, x.there))
grammar_refusal marks (too_deep i x) = (omega arith, omega (arith, x.there))
grammar_refusal marks (disagreeing i x) = (omega arith, omega (arith, x.there))
grammar_refusal marks (unfinished_body x) = (omega arith, omega arith)

pub grammar_small : (marks : List ℕ) {k p : ℕ} → Refuses marks k p → length marks ≤ 65536 → Small k p
grammar_small marks x h = let r = grammar_refusal marks x in (r.0, omega (arith, r.1))

-- the count of the table's words, or 16 with the words of either
pub both_bits : (words lent : Both) → length words.sheet < 2 ^ 40 → length words.table < 2 ^ 40 → InBits (both_answer (gives words) lent)
both_bits words lent h k =
    let table = lent_answer (gives words.table) lent.table in
    either (λ (a : Result ℕ). InBits (followed a table)) (leb (length words.sheet) (length lent.sheet)) _ _
    (λ e. either InBits (leb (length words.table) (length lent.table)) _ _ (λ d. k) (λ d. (omega arith, k)))
    (λ e. (omega arith, h))

pub marks_short : (l : List Token) → length l ≤ 65536 → length (marks_of l) ≤ 65536
marks_short l h = omega (arith, length-map l mark_of)

verdict_bits : (lent : Both) {w : Walked} {v : Result (List ℕ)} → Judged w v → WalkFits 65536 w → InBits (both_answer (both_of w v) lent)
verdict_bits lent (unread k p) h = small_bits k p h
verdict_bits lent (read l v (a_body words x)) h =
    let n = marks_short l h in
    both_bits (both (words_of l) words) lent (omega (arith, words_length l)) (omega (arith, x.each))
verdict_bits lent (read l v (verdict.refused k p x)) h = small_bits k p (grammar_small (marks_of l) x (marks_short l h))

body_bits : (lent left : Both) {w : Walked} {o : Result ℕ} → Answered lent left w o → WalkFits 65536 w → InBits o
body_bits lent left x h = subst InBits (sym x.answer) (verdict_bits lent x.judged h)

-- the listing: a chunk is refused at 0; and there are at most 4,645 answers of five words each
pub must_fits : (b : Bool) (k : ℕ) → k < 2 ^ 7 → Fits 65536 (must b k 0)
must_fits true k h = omega arith
must_fits false k h = (h, omega arith)

pub fields_fit : (s : List ℕ) → Fits 65536 (fields_at s)
unfolding fields_at
fields_fit s =
    on 65536 (must (eqb (length s) chunk_size) wrong_length 0) _ (must_fits (eqb (length s) chunk_size) wrong_length (omega arith)) (λ x n h.
    on 65536 (must (starts_with s chunk_magic) wrong_magic 0) _ (must_fits (starts_with s chunk_magic) wrong_magic (omega arith)) (λ y m k. omega arith))

pub chosen_bits : (b : Bool) (x y c : Result ℕ) (A B : Type 0) → InBits x → InBits y → Choose b ((c ≡ x) × A) ((c ≡ y) × B) → InBits c
chosen_bits true x y c A B h k (e, z) = subst InBits (sym e) h
chosen_bits false x y c A B h k (e, z) = subst InBits (sym e) k

list_bits : (s : List ℕ) (recovery : Bool) (lent left : List ℕ) (c : Result ℕ) (a : Answer Fields) → fields_at s ≡ a → Fits 65536 a
    → ListsOn s (start_of recovery) lent left c a → InBits c
list_bits s recovery lent left c (given h n) e f (items, (r, x)) =
    let few = most_answers_lem s h n e recovery items r in
    chosen_bits (leb (length (rows_of items)) (length lent)) _ _ c _ _ (omega arith) (omega arith, omega (arith, rows_length items)) x
list_bits s recovery lent left c (refused k p) e f (x, y) = subst InBits (sym x) (small_bits k p f)

-- A stream of bytes, from a start of 32 bits: every answer of the walk, whatever the length and the flags say.
module _ (s : List ℕ) (bytes : Bytes s) (start len : ℕ) (u32 : start < 2 ^ 32) (f : Flags) where
  -- the answer for sheet and owner table comes back
  pub body_kept : (lent left : Both) (c : Result ℕ) → Answered lent left (walk_of s start len f) c → unpacked_of (packed_of c) ≡ c
  body_kept lent left c x = answer_kept c (body_bits lent left x (walk_fits s bytes start len f u32))

  -- so what a caller takes from the call's word is the answer that the definition allows
  pub body_told : (lent left : Both) (word : ℕ) → BodyPacked (walk_of s start len f) lent left word
      → Answered lent left (walk_of s start len f) (unpacked_of word)
  body_told lent left word (c, (e, x)) =
      subst (Answered lent left (walk_of s start len f)) (sym (ap unpacked_of e ∙ body_kept lent left c x)) x

-- the listing's answer, of any slice
pub list_kept : (s : List ℕ) (recovery : Bool) (lent left : List ℕ) (c : Result ℕ) → Lists s (start_of recovery) lent left c
    → unpacked_of (packed_of c) ≡ c
list_kept s recovery lent left c x = answer_kept c (list_bits s recovery lent left c (fields_at s) refl (fields_fit s) x)

pub list_told : (s : List ℕ) (recovery : Bool) (lent left : List ℕ) (word : ℕ) → ListPacked s recovery lent left word
    → Lists s (start_of recovery) lent left (unpacked_of word)
list_told s recovery lent left word (c, (e, x)) =
    subst (Lists s (start_of recovery) lent left) (sym (ap unpacked_of e ∙ list_kept s recovery lent left c x)) x

-- places past 2^32 are met, so that 32 bits would not do
pub far_place : unpacked_of (packed_of (answer_of (walk_of far_stream 0 34 (flags_of 0 0)) (both [] []))) ≡ refuses 2 (2 ^ 32 + 33)
unfolding little gist_at table_at values_at turn_at step_from walk_from walk_of
far_place = refl
