-- `lent` meets its contract. Assumes nothing.
use mathlib.Core.Path.{ap}
use mathlib.Core.List.{List}
use Prim.Native.Nat.{ℕ}
use borrow.Author.Rules.{rules}
use Rattle.print.proofs.Putting.{put_as}
use Rattle.stream_answers.specs.Modes.{asked_walk, room_in}
use Rattle.stream_answers.specs.Kept.{kept_stream, kept_text}
use Rattle.stream_answers.proofs.Lending.{take_replicate}
use Rattle.stream_answers.proofs.keeping.lent.Goals as goal

pub returns : goal.returns
returns c =
    let a = c.args in
    let b = a.bytes.now in
    put_as
    (ap (λ (l : List ℕ). kept_text a.narrow (asked_walk (kept_stream b) a.asked) a.given.now l) (take_replicate 18446744073709551615 (room_in b) 65536))
    c.in_room.ensures
