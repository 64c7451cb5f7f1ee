-- `event_of` meets its contract. Assumes nothing.
use mathlib.Core.Path.{◌≡◌, sym, ap, ◌∙◌}
use mathlib.Core.List.{List}
use Prim.Native.Nat.{ℕ}
use lib.ListN.{length, take}
use native.Mathlib.Omega.{arith}
use lib.Seq.{length-take-le}
use Rattle.stream_answers.proofs.Parts.{some_as}
use Rattle.event_answers.specs.Called.{EventCalled}
use Rattle.stream_answers.proofs.Lending.{take_upto}
use Rattle.stream_answers.specs.Modes.{room_in, stream_of}
use borrow.Author.Rules.{rules}
use Rattle.event_answers.proofs.event_of.Goals as goal

pub slice_bounds-event_in-end-2 : goal.slice_bounds-event_in-end-2
slice_bounds-event_in-end-2 c =
    sym (length-take-le _ c.args.words.now (omega (arith, c.min-n.ensures)))

pub returns : goal.returns
returns c =
    let n = c.min-n in
    let a = c.args in
    let b = a.bytes.now in
    let p : take n.result a.words.now ≡ take (room_in b) a.words.now =
    take_upto a.words.now n.result _ (room_in b) n.ensures c.u32_at.ensures in
    some_as
    (ap (λ (s : List ℕ). EventCalled s a.start a.length a.inline (take n.result a.words.now)) c.behind.ensures ∙ ap (EventCalled (stream_of b) a.start a.length a.inline) p)
    c.event_in.ensures
