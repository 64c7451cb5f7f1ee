-- Template instances and their values. Document 01, "Token walk" and "Values".
use Rattle.std.specs.Prelude as Std
use Rattle.std.specs.Prelude.{Ok, Err, Some, None, Option}
use Rattle.cursor.specs.declared.Refusal.{Refusal}
use Rattle.std.specs.Prelude.{false, List, ℕ, zero, suc, ◌+◌, ◌-◌, eqb, drop}
use Rattle.cursor.specs.Answer.{Answer, given, refused, ◌then◌, pick, Result, gives, refuses, Maybe, just, nothing}
use Rattle.cursor.specs.Reads.{within, number_of, number_at, take_at, set_to}
use Rattle.cursor.specs.Refusals.{too_few}
use Rattle.cursor.specs.declared.Part.{Part}
use Rattle.value.specs.Value.{sized_at}
use Rattle.value.specs.declared.Value.{Value}
use Rattle.tokens.specs.Token.{instance_kind, gist, type_at}
use Rattle.tokens.specs.declared.plain.Gist.{Gist}
use Rattle.tokens.specs.declared.Held.TheVariants as H
use Rattle.tokens.specs.declared.Instance.{Instance}
use Rattle.tokens.specs.declared.Values.{Values}

-- "If the position equals the offset: u32, 16 byte GUID, u32 n, then n bytes skipped."; else there is no GUID
abbrev pub definition_at : List ℕ → ℕ → ℕ → Answer Part
definition_at s offset at =
    pick (eqb at offset)
    (number_at s at 4 then λ _ at.
    take_at s at 16 then λ guid at.
    number_at s at 4 then λ n at.
    set_to s (at + n) then λ _ at.
    given guid at)
    (given (record { start = 0; len = 0 }) at)

-- "descriptors of size u16, type, a byte"; each is a read of its own
abbrev pub descriptor_at : List ℕ → ℕ → Answer Unit
descriptor_at s at =
    number_at s at 2 then λ _ at.
    type_at s at then λ _ at.
    number_at s at 1 then λ _ at.
    given tt at

-- so many descriptors
unfoldable pub table_at : List ℕ → ℕ → ℕ → Answer Unit
table_at s at zero = given tt at
table_at s at (suc n) =
    descriptor_at s at then λ _ at.
    table_at s at n

-- "Instance: a byte, id u32, offset u32. If the position equals the offset" its definition. "Count u32, then descriptors"
abbrev pub instance_head_at : List ℕ → ℕ → Answer Instance
instance_head_at s at =
    number_at s at 1 then λ _ at.
    number_at s at 4 then λ id at.
    number_at s at 4 then λ offset at.
    definition_at s offset at then λ guid at.
    number_at s at 4 then λ count table.
    table_at s table count then λ _ values.
    given (record { id = id; offset = offset; guid = guid; table = table; count = count; values = values }) values

-- "Each value is read from the middle of the stream", by its descriptor's type and size
abbrev pub value_in : List ℕ → ℕ → ℕ → Answer Value
value_in s table at = sized_at (drop at s) at (number_of s (table + 2) 1) (number_of s table 2)

-- so many values, one after another, each by its descriptor
unfoldable pub values_at : List ℕ → ℕ → ℕ → ℕ → Answer Unit
values_at s table at zero = given tt at
values_at s table at (suc n) =
    value_in s table at then λ _ at.
    values_at s (table + 4) at n

-- "The whole table is read before any value."
abbrev pub instance_at : List ℕ → ℕ → Answer Gist
instance_at s at =
    instance_head_at s at then λ i at.
    values_at s i.table at i.count then λ _ at.
    given (gist instance_kind 0 false (H.Instance i)) at

-- where the walk over an instance's values starts
abbrev pub values_of : Instance → Values
values_of i = record { table = i.table; left = i.count; at = i.values }

-- a value, its descriptor's size, and where the walk over the values goes on
pub record ValueNext : Type 0 where
  pub value : Value
  pub size : ℕ
  pub rest : Values

-- the next value, none where all are read, or a refusal's number and place
abbrev pub next_answer : Std.Result (Option (Value × ℕ × Values)) Refusal → Result (Maybe ValueNext)
next_answer (Ok (Some (v, size, rest))) = gives (just (record { value = v; size = size; rest = rest }))
next_answer (Ok None) = gives nothing
next_answer (Err r) = refuses r.number r.place

-- a step over an instance's values. Of an instance that was read, descriptors and values stand in the stream; a made-up descriptor that
-- does not has too few bytes, and a made-up position may be past the end
abbrev pub value_step : List ℕ → ℕ → ℕ → Answer Value
value_step s table at =
    pick (within s table 4)
    (set_to s at then λ _ at.
    value_in s table at)
    (refused too_few table)

-- the value with its size, and where the next one stands
abbrev pub next_given : Values → ℕ → Answer Value → Result (Maybe ValueNext)
next_given v size (given x next) =
    gives (just (record { value = x; size = size; rest = record { table = v.table + 4; left = v.left - 1; at = next } }))
next_given v size (refused k p) = refuses k p

abbrev pub next_of : List ℕ → Values → Result (Maybe ValueNext)
next_of s v =
    pick (eqb v.left 0) (gives nothing) (next_given v (number_of s v.table 2) (value_step s v.table v.at))
