-- Tokens and their walk: what their definitions answer fits in an answer word. Assumes nothing.
use mathlib.Core.Bool.{Bool, false}
use mathlib.Core.List.{List}
use Prim.Native.Nat.{ℕ, zero, suc, ◌+◌, ◌-◌, ◌^◌, ◌≤◌, ◌<◌}
use native.Mathlib.Omega.{arith}
use borrow.Author.Tests.{leb-true}
use lib.Dec.{eqb, leb, ltb}
use lib.ListN.{length}
use Rattle.cursor.specs.Answer.{Answer, given, refused}
use Rattle.cursor.specs.Reads.{number_of, take_at, set_to}
use Rattle.cursor.specs.Text.{prefixed_at}
use Rattle.cursor.specs.declared.Part.{Part}
use Rattle.cursor.proofs.Choice.{either}
use Rattle.name.specs.Name.{name_at}
use Rattle.value.specs.Kinds.{known_code}
use Rattle.value.specs.Value.{unsized_at}
use Rattle.tokens.specs.Token.{type_at, substitution_at, named_at, open_at, text_token_at, value_token_at}
use Rattle.tokens.specs.Instance as I
use Rattle.tokens.specs.Sight.{instance_there, sight_at}
use Rattle.tokens.specs.Table.{gist_at}
use Rattle.tokens.specs.Pieces.{dependency_at, list_size_at}
use Rattle.tokens.specs.Walk.{Met, handed, header, over, header_at, turn_at, onward, step_from, step_at, Walked, ok, bad, before, after, walk_from, walk_at, walk_in, walk_of}
use Rattle.tokens.specs.declared.Flags.{Flags}
use Rattle.tokens.specs.declared.Token.{Token}
use Rattle.tokens.proofs.Table.{by_line}
use Rattle.tokens.proofs.Reach.{Grows}
use Rattle.tokens.proofs.Steps.{step_grows}
use Rattle.promises.specs.Packed.{Bytes}
use Rattle.promises.proofs.Fits.{Small, Fits, on, number_below, read_fits, number_then, set_fits}
use Rattle.promises.proofs.FitsValue.{text_fits, middle_fits, unsized_fits, name_fits}
use Rattle.promises.proofs.NestTurns.{there_byte}

module _ (s : List ℕ) (bytes : Bytes s) (short : length s ≤ 65536) where
  abbrev In : {A : Type 0} → Answer A → Type 0
  In a = Fits (length s) a

  -- tokens but the instance
  type_fits : (at : ℕ) → at ≤ length s → In (type_at s at)
  type_fits at h = number_then s short bytes at 1 _ h (λ code n b k. either In (known_code code) _ _ (λ e. k) (λ e. (omega arith, omega arith)))

  named : (inline : Bool) (kind at : ℕ) → at ≤ length s → In (named_at s inline kind at)
  named inline kind at h = on (length s) (name_at s at inline) _ (name_fits s bytes short at inline h) (λ x n k. k)

  text : (kind at : ℕ) → at ≤ length s → In (text_token_at s kind at)
  text kind at h = on (length s) (prefixed_at s at false) _ (text_fits s bytes short at h) (λ x n k. k)

  substitution : (optional : Bool) (at : ℕ) → at ≤ length s → In (substitution_at s optional at)
  substitution optional at h =
      number_then s short bytes at 2 _ h (λ n m b k. on (length s) (type_at s m) _ (type_fits m k) (λ x e l. l))

  token_value : (at : ℕ) → at ≤ length s → In (value_token_at s at)
  token_value at h = on (length s) (unsized_at s at) _ (unsized_fits s bytes short at h) (λ x n k. k)

  list_size : (announced : Bool) (at : ℕ) → at ≤ length s → In (list_size_at s announced at)
  list_size announced at h = either In announced _ _ (λ e. read_fits s short at 4 (number_of s at 4) h) (λ e. h)

  dependency : (carried : Bool) (at : ℕ) → at ≤ length s → In (dependency_at s carried at)
  dependency carried at h = either In carried _ _ (λ e. read_fits s short at 2 (number_of s at 2) h) (λ e. h)

  opened : (f : Flags) (announced : Bool) (at : ℕ) → at ≤ length s → In (open_at s f announced at)
  opened f announced at h =
      on (length s) (dependency_at s f.dependencies at) _ (dependency f.dependencies at h) (λ d n k.
      number_then s short bytes n 4 _ k (λ _ m b l.
      on (length s) (name_at s m f.inline) _ (name_fits s bytes short m f.inline l) (λ x e i.
      on (length s) (list_size_at s announced e) _ (list_size announced e i) (λ y z j. j))))

  -- the instance
  descriptor : (at : ℕ) → at ≤ length s → In (I.descriptor_at s at)
  descriptor at h =
      number_then s short bytes at 2 _ h (λ x n b k.
      on (length s) (type_at s n) _ (type_fits n k) (λ y m l. number_then s short bytes m 1 _ l (λ z e c i. i)))

  table : (n at : ℕ) → at ≤ length s → In (I.table_at s at n)
  unfolding I.table_at
  table zero at h = h
  table (suc n) at h = on (length s) (I.descriptor_at s at) _ (descriptor at h) (λ x m k. table n m k)

  -- a value's size has two bytes
  pub value : (at_table at : ℕ) → at ≤ length s → In (I.value_in s at_table at)
  value at_table at h =
      middle_fits s bytes short at (number_of s (at_table + 2) 1) (number_of s at_table 2) h (omega (arith, number_below s at_table 2 bytes))

  values : (n at_table at : ℕ) → at ≤ length s → In (I.values_at s at_table at n)
  unfolding I.values_at
  values zero at_table at h = h
  values (suc n) at_table at h = on (length s) (I.value_in s at_table at) _ (value at_table at h) (λ x m k. values n (at_table + 4) m k)

  -- the definition's size has four
  definition : (offset at : ℕ) → at ≤ length s → In (I.definition_at s offset at)
  definition offset at h =
      either In (eqb at offset) _ _
      (λ e. number_then s short bytes at 4 _ h (λ x n b k.
      on (length s) (take_at s n 16) _ (read_fits s short n 16 (record { start = n; len = 16 }) k) (λ g m l.
      number_then s short bytes m 4 _ l (λ size z c i.
      on (length s) (set_to s (z + size)) _ (set_fits s short (z + size) (omega arith)) (λ y u j. j)))))
      (λ e. h)

  head : (at : ℕ) → at ≤ length s → In (I.instance_head_at s at)
  head at h =
      number_then s short bytes at 1 _ h (λ x n b k.
      number_then s short bytes n 4 _ k (λ id m c l.
      number_then s short bytes m 4 _ l (λ offset e d i.
      on (length s) (I.definition_at s offset e) _ (definition offset e i) (λ g z j.
      number_then s short bytes z 4 _ j (λ count t y p.
      on (length s) (I.table_at s t count) _ (table count t p) (λ u v q. q))))))

  whole_instance : (at : ℕ) → at ≤ length s → In (I.instance_at s at)
  whole_instance at h =
      on (length s) (I.instance_head_at s at) _ (head at h) (λ i n k.
      on (length s) (I.values_at s i.table n i.count) _ (values i.count i.table n k) (λ y e l. l))

  -- a turn and a step
  header_fits : (at : ℕ) → at ≤ length s → In (header_at s at)
  header_fits at h =
      number_then s short bytes at 1 _ h (λ x n b k. number_then s short bytes n 1 _ k (λ y m c l. number_then s short bytes m 1 _ l (λ z e d i. i)))

  gist_fits : (f : Flags) (b at : ℕ) → at ≤ length s → In (gist_at s f b at)
  gist_fits f b at h =
      by_line In s f b at (record {
        instance = whole_instance at h;
        opened = λ announced. opened f announced at h;
        bare = λ kind l k. h;
        value = token_value at h;
        named = λ kind l k. named f.inline kind at h;
        text = λ kind l k. text kind at h;
        char = number_then s short bytes at 2 _ h (λ x n c k. k);
        substitution = λ optional. substitution optional at h;
        unknown = (omega arith, omega arith);
      })

  turn_fits : (end : ℕ) (f : Flags) (at : ℕ) → at ≤ length s → In (turn_at s end f at)
  unfolding turn_at
  turn_fits end f at h =
      either In (ltb at end) _ _
      (λ w. number_then s short bytes at 1 _ h (λ b n c k.
      either In (eqb b 0x00) _ _ (λ e. k)
      (λ e. either In (eqb b 0x0F) _ _
      (λ e. on (length s) (header_at s n) _ (header_fits n k) (λ x m l. l))
      (λ e. on (length s) (gist_at s f b n) _ (gist_fits f b n k) (λ x m l. l)))))
      (λ w. h)

  -- and a turn that leaves an instance's values
  pub sight_fits : (end : ℕ) (f : Flags) (at : ℕ) → at ≤ length s → In (sight_at s end f at)
  sight_fits end f at h =
      either In (instance_there s end at) _ _
      (λ e. on (length s) (I.instance_head_at s (at + 1)) _ (head (at + 1) (there_byte s end f at e).1) (λ i n k. k))
      (λ e. on (length s) (turn_at s end f at) _ (turn_fits end f at h) (λ m n k. k))

  onward_fits : (x : Answer Met) (go : ℕ → Answer Met) → In x → ((n : ℕ) → n ≤ length s → In (go n)) → In (onward x go)
  onward_fits (given (handed t) n) go h g = h
  onward_fits (given header n) go h g = g n h
  onward_fits (given over n) go h g = h
  onward_fits (refused k p) go h g = h

  step_fits : (turns end : ℕ) (f : Flags) (at : ℕ) → at ≤ length s → In (step_from turns s end f at)
  unfolding step_from
  step_fits zero end f at h = h
  step_fits (suc turns) end f at h =
      onward_fits (turn_at s end f at) (step_from turns s end f) (turn_fits end f at h) (λ n k. step_fits turns end f n k)

-- a walk that is read has at most so many tokens, and one that is refused a number and a place that fit
abbrev pub WalkFits : ℕ → Walked → Type 0
WalkFits most (ok l) = length l ≤ most
WalkFits most (bad k p) = Small k p

before_fits : (t : Token) (most more : ℕ) (w : Walked) → suc most ≤ more → WalkFits most w → WalkFits more (before t w)
before_fits t most more (ok l) e h = omega (arith, h)
before_fits t most more (bad k p) e h = h

-- each token has a byte
after_fits : (at high : ℕ) (x : Answer Met) (go : ℕ → Walked) → Grows at high x → Fits high x
    → ((n : ℕ) → n ≤ high → WalkFits (high - n) (go n)) → WalkFits (high - at) (after x go)
after_fits at high (given (handed t) n) go y h g = before_fits t (high - n) (high - at) (go n) (omega (arith, y.0, y.1, y.2)) (g n h)
after_fits at high (given header n) go y h g = omega arith
after_fits at high (given over n) go y h g = omega arith
after_fits at high (refused k p) go y h g = h

module _ (s : List ℕ) (bytes : Bytes s) where
  from_fits : length s ≤ 65536 → (steps end : ℕ) (f : Flags) (at : ℕ) → at ≤ length s
      → WalkFits (length s - at) (walk_from steps s end f at)
  unfolding walk_from
  from_fits short zero end f at h = omega arith
  from_fits short (suc steps) end f at h =
      after_fits at (length s) (step_at s end f at) (walk_from steps s end f) (step_grows s end f at)
      (step_fits s bytes short (suc (length s - at)) end f at h)
      (λ n k. from_fits short steps end f n k)

  more : (most high : ℕ) (w : Walked) → most ≤ high → WalkFits most w → WalkFits high w
  more most high (ok l) e h = omega arith
  more most high (bad k p) e h = h

  -- the walk from a position in a stream no longer than a chunk
  pub at_fits : length s ≤ 65536 → (end : ℕ) (f : Flags) (at : ℕ) → at ≤ length s → WalkFits 65536 (walk_at s end f at)
  at_fits short end f at h =
      more (length s - at) 65536 (walk_at s end f at) (omega arith) (from_fits short (suc (length s - at)) end f at h)

  -- the walk of any stream of bytes, from a start of 32 bits
  pub walk_fits : (start len : ℕ) (f : Flags) → start < 2 ^ 32 → WalkFits 65536 (walk_of s start len f)
  unfolding walk_of
  walk_fits start len f h =
      either (λ x. WalkFits 65536 (walk_in s f x)) (leb (length s) 65536) _ _
      (λ w. either (λ x. WalkFits 65536 (walk_in s f x)) (leb start (length s)) _ _
      (λ v. at_fits (leb-true (length s) 65536 w) (start + len) f start (leb-true start (length s) v))
      (λ v. (omega arith, omega arith)))
      (λ w. (omega arith, omega arith))
