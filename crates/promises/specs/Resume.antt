-- Where the next live record stands. Document 01, "Record walk"; the theorems are those of proofs/Resume.antt.
use Rattle.std.specs.Prelude.{Some, None, Option}
use Rattle.std.specs.Prelude.{◌≡◌, List, ℕ, ◌+◌, leb}
use Rattle.cursor.specs.Answer.{Answer, given, refused}
use Rattle.record.specs.Record.{plain_at}
use Rattle.record.specs.declared.Fields.{Fields}
use Rattle.record.specs.declared.Record.{Record}
use Rattle.search.specs.Least.{Least}
use Rattle.search.specs.Allowed.{live_end, resyncable}
use Rattle.chunk.specs.Walk.{Choose}

-- a record that the plain read gives is the next live one; after one that is unreadable it is that at the resync offset, or none
abbrev pub NextAt : List ℕ → Fields → ℕ → Option ℕ → Answer Record → Type 0
NextAt s h p next (given r end) = next ≡ Some p
NextAt s h p next (refused number place) = Least (resyncable s h) (p + 1) next

-- the next live record of a walk that stands at a place: at or past live end there is none, and without a position neither
abbrev pub NextLive : List ℕ → Fields → Option ℕ → Option ℕ → Type 0
NextLive s h (Some p) next = Choose (leb (live_end h) p) (next ≡ None) (NextAt s h p next (plain_at s p))
NextLive s h None next = next ≡ None
