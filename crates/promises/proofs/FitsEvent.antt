-- Definitions, roots and bodies of an event: what their definitions answer fits in an answer word, since an instance's offset has 32 bits and each
-- body starts in the stream. Assumes nothing.
use mathlib.Core.Path.{◌≡◌, refl}
use mathlib.Core.Bool.{Bool, false}
use mathlib.Core.List.{List, [], ◌∷◌, ◌++◌}
use Prim.Native.Nat.{ℕ, zero, suc, ◌+◌, ◌^◌, ◌≤◌, ◌<◌}
use native.Mathlib.Decide.{dec_le}
use native.Mathlib.Omega.{arith}
use borrow.Author.Tests.{leb-true}
use lib.Dec.{eqb, leb, ltb}
use lib.ListN.{length}
use Rattle.cursor.specs.Answer.{Answer, given, refused, Result, gives, refuses, ◌then◌, Maybe, just, nothing}
use Rattle.cursor.specs.Reads.{within, number_of, number_at, take_at, set_to}
use Rattle.cursor.proofs.Choice.{either}
use Rattle.value.specs.declared.Value.{Value}
use Rattle.tokens.specs.Instance as I
use Rattle.tokens.specs.Pieces.{turn_after_byte, sight_of_head, sight_of_turn, head_after_offset}
use Rattle.tokens.specs.Sight.{Seen, begun, met, instance_there, sight_at}
use Rattle.tokens.specs.Walk.{Met, handed, header, over, turn_at}
use Rattle.tokens.specs.declared.Flags.{Flags}
use Rattle.tokens.specs.declared.Instance.{Instance}
use Rattle.tokens.specs.declared.Values.{Values}
use Rattle.nest.specs.Nested.{bin_xml, inner_flags}
use Rattle.nest.proofs.Values.{value_spans}
use Rattle.event.specs.Accepted.{Each}
use Rattle.event.specs.Event.{Span, Definition, definition_at, its_own, definition_of, is_instruction, root_on, root_from, root_at, spans_on, spans_from, spans_in, bodies_at, seen_definition, definition_at_place}
use Rattle.event.specs.declared.text.Root.{Root}
use Rattle.event.specs.declared.text.Root.TheVariants as R
use Rattle.promises.specs.Packed.{Bytes}
use Rattle.promises.proofs.EachToken.{Of, of_later}
use Rattle.promises.proofs.Fits.{Small, Fits, on, number_below, read_fits, set_fits, number_then}
use Rattle.promises.proofs.FitsWalk.{sight_fits}
use Rattle.promises.proofs.NestTurns.{there_byte}

-- an instance's offset has four bytes
abbrev pub OffsetFits : Instance → Type 0
OffsetFits i = i.offset < 2 ^ 32

abbrev OfSeen : Seen → Type 0
OfSeen (begun i) = OffsetFits i
OfSeen (met m) = Unit {0}

abbrev pub OfRoot : Root → Type 0
OfRoot (R.Instance i) = OffsetFits i
OfRoot R.Element = Unit {0}

begun_offset : (a : Answer Instance) → Of OffsetFits a → Of OfSeen (sight_of_head a)
begun_offset (given i n) h = h
begun_offset (refused k p) h = tt {0}

module _ (s : List ℕ) (bytes : Bytes s) where
  head_offset : (at : ℕ) → Of OffsetFits (I.instance_head_at s at)
  head_offset at =
      of_later OffsetFits (number_at s at 1) _ (λ _ n.
      of_later OffsetFits (number_at s n 4) _ (λ id m.
      either (λ (a : Answer ℕ). Of OffsetFits (a then head_after_offset s id)) (within s m 4) _ _
      (λ v.
      let offset = number_of s m 4 in
      of_later OffsetFits (I.definition_at s offset (m + 4)) _ (λ guid e.
      of_later OffsetFits (number_at s e 4) _ (λ count table.
      of_later OffsetFits (I.table_at s table count) _ (λ _ values. omega (arith, number_below s m 4 bytes)))))
      (λ v. tt {0})))

  sight_offset : (end : ℕ) (f : Flags) (at : ℕ) → Of OfSeen (sight_at s end f at)
  sight_offset end f at =
      either (Of OfSeen) (instance_there s end at) _ _ (λ e. begun_offset (I.instance_head_at s (at + 1)) (head_offset (at + 1)))
      (λ e. of_later OfSeen (turn_at s end f at) _ (λ m n. tt {0}))

-- a refusal of a read that is small, or none
abbrev SmallRead : {A : Type 0} → Answer A → Type 0
SmallRead (given x n) = Unit {0}
SmallRead (refused k p) = Small k p

fits_small : {A : Type 0} (high : ℕ) (a : Answer A) → Fits high a → SmallRead a
fits_small high (given x n) h = tt {0}
fits_small high (refused k p) h = h

met_small : (a : Answer Met) → SmallRead a → SmallRead (sight_of_turn a)
met_small (given m n) h = tt {0}
met_small (refused k p) h = h

-- where a definition's tokens start, or a small refusal
abbrev pub OwnFits : ℕ → Result (ℕ × ℕ) → Type 0
OwnFits high (gives (from, to)) = from ≤ high
OwnFits high (refuses k p) = Small k p

own_fits : (s : List ℕ) (i : Instance) (a : Answer Definition) → OffsetFits i → Fits (length s) a → OwnFits (length s) (its_own s i a)
own_fits s i (given d at) o h = either (OwnFits (length s)) (eqb d.first i.id) _ _ (λ e. h) (λ e. (omega arith, omega arith))
own_fits s i (refused k p) o h = h

module _ (s : List ℕ) (bytes : Bytes s) (short : length s ≤ 65536) where
  pub definition_fits : (i : Instance) → OffsetFits i → OwnFits (length s) (definition_of s i)
  definition_fits i o =
      own_fits s i (definition_at s i.offset) o
      (on (length s) (set_to s i.offset) _ (set_fits s short i.offset (omega arith)) (λ _ at h.
      number_then s short bytes at 4 _ h (λ _ n b k.
      on (length s) (take_at s n 16) _ (read_fits s short n 16 (record { start = n; len = 16 }) k) (λ guid m l.
      number_then s short bytes m 4 _ l (λ size e c j. j)))))

  -- what is seen from a position past the end
  turn_past : (end : ℕ) (f : Flags) (at : ℕ) → length s < at → at < 2 ^ 33 → SmallRead (turn_at s end f at)
  unfolding turn_at
  turn_past end f at h k =
      either SmallRead (ltb at end) _ _
      (λ w. either (λ (a : Answer ℕ). SmallRead (a then turn_after_byte s f at)) (within s at 1) _ _
      (λ v. absurd (omega (arith, leb-true (at + 1) (length s) v)))
      (λ v. (omega arith, k)))
      (λ w. tt {0})

  sight_past : (end : ℕ) (f : Flags) (at : ℕ) → length s < at → at < 2 ^ 33 → SmallRead (sight_at s end f at)
  sight_past end f at h k =
      either SmallRead (instance_there s end at) _ _ (λ e. absurd (omega (arith, (there_byte s end f at e).1)))
      (λ e. met_small (turn_at s end f at) (turn_past end f at h k))

  sight_small : (end : ℕ) (f : Flags) (at : ℕ) → at < 2 ^ 33 → SmallRead (sight_at s end f at)
  sight_small end f at h =
      elim (dec_le at (length s)) [
        | yes k ↦ fits_small (length s) (sight_at s end f at) (sight_fits s bytes short end f at k)
        | no k ↦ sight_past end f at (omega arith) h
      ]

  -- the definition of what is seen
  seen_fits : (place : ℕ) (x : Answer Seen) → place < 2 ^ 32 → Of OfSeen x → SmallRead x → OwnFits (length s) (seen_definition s place x)
  seen_fits place (given (begun i) n) u32 o h = definition_fits i o
  seen_fits place (given (met m) n) u32 o h = (omega arith, omega arith)
  seen_fits place (refused k p) u32 o h = h

-- and of any place of 32 bits
pub place_fits : (s : List ℕ) → Bytes s → (place : ℕ) → place < 2 ^ 32 → OwnFits (length s) (definition_at_place s place)
place_fits s bytes place u32 =
    let f = inner_flags false in
    either (OwnFits (length s)) (leb (length s) 65536) _ _
    (λ e.
    let short = leb-true (length s) 65536 e in
    seen_fits s bytes short place (sight_at s (place + 1) f place) u32 (sight_offset s bytes (place + 1) f place)
    (sight_small s bytes short (place + 1) f place (omega arith)))
    (λ e. (omega arith, omega arith))

-- a body's root, whose offset has 32 bits too
module _ (s : List ℕ) (inline : Bool) where
  root_on_lem : (x : Answer Seen) (go : ℕ → Root) → Of OfSeen x → ((n : ℕ) → OfRoot (go n)) → OfRoot (root_on s inline x go)
  root_on_lem (given (begun i) n) go o g = o
  root_on_lem (given (met (handed t)) n) go o g = either OfRoot (is_instruction t.kind) _ _ (λ e. g n) (λ e. tt {0})
  root_on_lem (given (met header) n) go o g = g n
  root_on_lem (given (met over) n) go o g = tt {0}
  root_on_lem (refused k p) go o g = tt {0}

  pub root_fits : Bytes s → (turns end at : ℕ) → OfRoot (root_from s inline turns end at)
  unfolding root_from
  root_fits bytes zero end at = tt {0}
  root_fits bytes (suc turns) end at =
      root_on_lem (sight_at s end (inner_flags inline) at) (root_from s inline turns end) (sight_offset s bytes end (inner_flags inline) at)
      (λ n. root_fits bytes turns end n)

-- a body starts in the stream
abbrev pub Starts : List ℕ → Span → Type 0
Starts s x = x.start ≤ length s

each_join : {A : Type 0} (P : A → Type 0) (a b : List A) → Each P a → Each P b → Each P (a ++ b)
each_join P [] b x y = y
each_join P (p ∷ a) b x y = (x.0, each_join P a b x.1 y)

module _ (s : List ℕ) where
  abbrev ValueStarts : Value → Type 0
  ValueStarts v = v.start ≤ length s

  abbrev NextStarts : Result (Maybe I.ValueNext) → Type 0
  NextStarts (gives (just x)) = ValueStarts x.value
  NextStarts (gives nothing) = Unit {0}
  NextStarts (refuses k p) = Unit {0}

  value_starts : (table at : ℕ) (x : Answer Value) → I.value_in s table at ≡ x → at ≤ length s → Of ValueStarts x
  value_starts table at (given v next) e h = omega (arith, (value_spans s table at v next h e).0)
  value_starts table at (refused k p) e h = tt {0}

  given_starts : (v : Values) (size : ℕ) (a : Answer Value) → Of ValueStarts a → NextStarts (I.next_given v size a)
  given_starts v size (given x next) h = h
  given_starts v size (refused k p) h = tt {0}

  step_starts : (table at : ℕ) → Of ValueStarts (I.value_step s table at)
  step_starts table at =
      either (Of ValueStarts) (within s table 4) _ _
      (λ w. either (λ (a : Answer Unit). Of ValueStarts (a then λ _ n. I.value_in s table n)) (leb at (length s)) _ _
      (λ v. value_starts table at (I.value_in s table at) refl (leb-true at (length s) v))
      (λ v. tt {0}))
      (λ w. tt {0})

  next_starts : (v : Values) → NextStarts (I.next_of s v)
  next_starts v =
      either NextStarts (eqb v.left 0) _ _ (λ e. tt {0})
      (λ e. given_starts v (number_of s v.table 2) (I.value_step s v.table v.at) (step_starts v.table v.at))

  module _ (inline : Bool) where
    module _ (go : ℕ → ℕ → List Span) (starts : (start end : ℕ) → start ≤ length s → Each (Starts s) (go start end)) where
      spans_on_lem : (o : Result (Maybe I.ValueNext)) (rest : Values → List Span) → NextStarts o → ((v : Values) → Each (Starts s) (rest v))
          → Each (Starts s) (spans_on s inline go o rest)
      spans_on_lem (gives (just x)) rest h g =
          let start = x.value.start in
          let end = start + x.size in
          either (λ (l : List Span). Each (Starts s) (l ++ rest x.rest)) (eqb x.value.code bin_xml) (go start end) []
          (λ e. each_join (Starts s) (go start end) (rest x.rest) (starts start end h) (g x.rest)) (λ e. g x.rest)
      spans_on_lem (gives nothing) rest h g = tt
      spans_on_lem (refuses k p) rest h g = tt

      spans_from_lem : (n : ℕ) (v : Values) → Each (Starts s) (spans_from s inline go n v)
      unfolding spans_from
      spans_from_lem zero v = tt
      spans_from_lem (suc n) v = spans_on_lem (I.next_of s v) (spans_from s inline go n) (next_starts v) (λ w. spans_from_lem n w)

      spans_in_lem : (root : Root) → Each (Starts s) (spans_in s inline go root)
      spans_in_lem (R.Instance i) = spans_from_lem i.count (I.values_of i)
      spans_in_lem R.Element = tt

    pub bodies_start : (left start end : ℕ) → start ≤ length s → Each (Starts s) (bodies_at s inline left start end)
    unfolding bodies_at
    bodies_start zero start end h = (h, tt)
    bodies_start (suc left) start end h = (h, spans_in_lem (bodies_at s inline left) (λ a b k. bodies_start left a b k) (root_at s inline end start))
