-- `event_rows` meets its contract. Assumes nothing.
use mathlib.Core.Path.{ap}
use Rattle.stream_answers.proofs.Parts.{some_as}
use Rattle.event_answers.specs.Called.{EventCalled}
use Rattle.stream_answers.proofs.Lending.{take_replicate}
use Rattle.stream_answers.specs.Modes.{room_in, stream_of}
use borrow.Author.Rules.{rules}
use Rattle.event_answers.proofs.event_rows.Goals as goal

pub returns : goal.returns
returns c =
    let a = c.args in
    let b = a.bytes.now in
    some_as (ap (EventCalled (stream_of b) a.start a.length a.inline) (take_replicate 18446744073709551615 (room_in b) 65536)) c.event_of.ensures
