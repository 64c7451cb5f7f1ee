-- The C call of bodies inside values: its answer word. Document 02, P9; the answer word is document 01's.
use Rattle.std.specs.Prelude.{◌≡◌, List, ℕ}
use Rattle.cursor.specs.Answer.{Result}
use Rattle.tokens.specs.declared.Flags.{Flags}
use Rattle.body.specs.Verdict.{Both}
use Rattle.nest.specs.Nested.{Nested}
use Rattle.doortumble.specs.Calls.{packed_of}

-- the answer word is that of an answer that the definition allows, with what is left in both buffers
abbrev pub BodiesPacked : List ℕ → ℕ → ℕ → Flags → Both → Both → ℕ → Type 0
BodiesPacked s start len f lent left word = (o : Result ℕ) × ((word ≡ packed_of o) × Nested s start len f lent left o)
