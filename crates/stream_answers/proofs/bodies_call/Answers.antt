-- `bodies_call` meets its contract. Assumes nothing.
use borrow.Author.Rules.{rules}
use mathlib.Core.Path.{ap}
use Rattle.body.specs.Verdict.{both}
use Rattle.stream_answers.specs.Modes.{room_in}
use Rattle.stream_answers.specs.Body.{table_room_in, body_stream, BodiesCalled}
use Rattle.stream_answers.proofs.Parts.{some_as}
use Rattle.stream_answers.proofs.Lending.{take_replicate}
use Rattle.stream_answers.proofs.bodies_call.Goals as goal

pub returns : goal.returns
returns c =
    let a = c.args in
    let b = a.bytes.now in
    let p = take_replicate 18446744073709551615 (room_in b) 65536 in
    let q = take_replicate 4294967295 (table_room_in b) 65536 in
    some_as (λ i. BodiesCalled (body_stream b) a.asked (both (p i) (q i))) c.bodies_of.ensures
