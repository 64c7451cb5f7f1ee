-- The C call of what an event says: its answer word. docs/EVENT.md; the answer word is document 01's.
use Rattle.std.specs.Prelude.{◌≡◌, Bool, List, ℕ}
use Rattle.cursor.specs.Answer.{Result}
use Rattle.doortumble.specs.Calls.{packed_of}
use Rattle.event.specs.Event.{Events}

-- the answer word is that of an answer that the definition allows, with what is left in the lent rows
abbrev pub EventPacked : List ℕ → ℕ → ℕ → Bool → List ℕ → List ℕ → ℕ → Type 0
EventPacked s start len inline lent left word = (o : Result ℕ) × ((word ≡ packed_of o) × Events s start len inline lent left o)
