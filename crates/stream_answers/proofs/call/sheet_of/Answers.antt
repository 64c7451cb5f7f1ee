-- `sheet_of` meets its contract. Assumes nothing.
use borrow.Author.Rules.{rules}
use mathlib.Core.Path.{sym, ap, ◌∙◌}
use mathlib.Core.List.{List}
use Prim.Native.Nat.{ℕ}
use native.Mathlib.Omega.{arith}
use lib.ListN.{take}
use lib.Seq.{length-take-le}
use Rattle.print.proofs.Putting.{put_as}
use Rattle.stream_answers.specs.Modes.{asked_walk, sheet_text, room_in, stream_of}
use Rattle.stream_answers.proofs.Lending.{take_upto}
use Rattle.stream_answers.proofs.call.sheet_of.Goals as goal

pub slice_bounds-sheet_in-end-2 : goal.slice_bounds-sheet_in-end-2
slice_bounds-sheet_in-end-2 c =
    sym (length-take-le _ c.args.words.now (omega (arith, c.min-room.ensures)))

pub returns : goal.returns
returns c =
    let a = c.args in
    let b = a.bytes.now in
    let n = c.min-room in
    put_as
    (ap (λ (s : List ℕ). sheet_text (asked_walk s a.asked) (take n.result a.words.now)) c.behind.ensures
    ∙ ap (λ (w : List ℕ). sheet_text (asked_walk (stream_of b) a.asked) w) (take_upto a.words.now n.result _ (room_in b) n.ensures c.u32_at.ensures))
    c.sheet_in.ensures
