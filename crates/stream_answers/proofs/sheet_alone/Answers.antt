-- `sheet_alone` meets its contract. Assumes nothing.
use borrow.Author.Rules.{rules}
use mathlib.Core.Path.{ap}
use mathlib.Core.List.{List}
use Prim.Native.Nat.{ℕ}
use Rattle.print.proofs.Putting.{put_as}
use Rattle.stream_answers.specs.Modes.{asked_walk, sheet_text, room_in, stream_of}
use Rattle.stream_answers.proofs.Lending.{take_replicate}
use Rattle.stream_answers.proofs.sheet_alone.Goals as goal

pub returns : goal.returns
returns c =
    let a = c.args in
    let w = asked_walk (stream_of a.bytes.now) a.asked in
    put_as
    (ap (λ (l : List ℕ). sheet_text w l) (take_replicate 18446744073709551615 (room_in a.bytes.now) 65536))
    c.sheet_of.ensures
