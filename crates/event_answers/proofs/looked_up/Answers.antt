-- `looked_up` meets its contract. Assumes nothing.
use mathlib.Core.Path.{ap}
use Rattle.print.proofs.Putting.{put_as}
use Rattle.event_answers.specs.Called.{name_text}
use Rattle.stream_answers.proofs.Lending.{take_replicate}
use Rattle.stream_answers.specs.Modes.{room_in, stream_of}
use borrow.Author.Rules.{rules}
use Rattle.event_answers.proofs.looked_up.Goals as goal

pub returns : goal.returns
returns c =
    let a = c.args in
    let b = a.bytes.now in
    put_as (ap (name_text (stream_of b) a.offset a.inline) (take_replicate 18446744073709551615 (room_in b) 65536)) c.name_of.ensures
