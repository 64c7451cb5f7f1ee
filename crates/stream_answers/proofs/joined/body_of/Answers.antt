-- `body_of` meets its contract. Assumes nothing.
use borrow.Author.Rules.{rules}
use native.Mathlib.Omega.{arith}
use mathlib.Core.Path.{◌≡◌, sym, ap, ◌∙◌}
use mathlib.Core.List.{List}
use Prim.Native.Nat.{ℕ}
use lib.ListN.{take}
use lib.Seq.{length-take-le}
use Rattle.body.specs.Verdict.{both}
use Rattle.stream_answers.specs.Modes.{asked_walk, room_in}
use Rattle.stream_answers.specs.Body.{table_room_in, body_stream, BodyCalled}
use Rattle.stream_answers.proofs.Parts.{some_as}
use Rattle.stream_answers.proofs.Lending.{take_upto}
use Rattle.stream_answers.proofs.joined.body_of.Goals as goal

pub slice_bounds-body_in-end-2 : goal.slice_bounds-body_in-end-2
slice_bounds-body_in-end-2 c = sym (length-take-le _ c.args.sheet.now (omega (arith, c.min-n.ensures)))

pub slice_bounds-body_in-end-4 : goal.slice_bounds-body_in-end-4
slice_bounds-body_in-end-4 c = sym (length-take-le _ c.args.table.now (omega (arith, c.min-m.ensures)))

pub returns : goal.returns
returns c =
    let a = c.args in
    let b = a.bytes.now in
    let n = c.min-n in
    let m = c.min-m in
    let p : take n.result a.sheet.now ≡ take (room_in b) a.sheet.now = take_upto a.sheet.now n.result _ (room_in b) n.ensures c.u32_at.ensures in
    let q : take m.result a.table.now ≡ take (table_room_in b) a.table.now = take_upto a.table.now m.result _ (table_room_in b) m.ensures c.u32_at-2.ensures in
    some_as
    (ap (λ (s : List ℕ). BodyCalled (asked_walk s a.asked) (both (take n.result a.sheet.now) (take m.result a.table.now))) c.behind.ensures
    ∙ (λ i. BodyCalled (asked_walk (body_stream b) a.asked) (both (p i) (q i))))
    c.body_in.ensures
