-- `in_room` meets its contract. Assumes nothing.
use mathlib.Core.Path.{sym, ap, ◌∙◌}
use mathlib.Core.List.{List}
use Prim.Native.Nat.{ℕ}
use native.Mathlib.Omega.{arith}
use borrow.Author.Rules.{rules}
use lib.ListN.{take}
use lib.Seq.{length-take-le}
use Rattle.print.proofs.Putting.{put_as}
use Rattle.stream_answers.specs.Modes.{asked_walk, room_in}
use Rattle.stream_answers.specs.Kept.{kept_stream, kept_text}
use Rattle.stream_answers.proofs.Lending.{take_upto}
use Rattle.stream_answers.proofs.keeping.in_room.Goals as goal

pub slice_bounds-kept_in-end-2 : goal.slice_bounds-kept_in-end-2
slice_bounds-kept_in-end-2 c = sym (length-take-le _ c.args.words.now (omega (arith, c.min-room.ensures)))

pub returns : goal.returns
returns c =
    let a = c.args in
    let b = a.bytes.now in
    let n = c.min-room in
    put_as
    (ap (λ (s : List ℕ). kept_text a.narrow (asked_walk s a.asked) a.given.now (take n.result a.words.now)) c.stream_of.ensures
    ∙ ap (λ (w : List ℕ). kept_text a.narrow (asked_walk (kept_stream b) a.asked) a.given.now w) (take_upto a.words.now n.result _ (room_in b) n.ensures c.u32_at.ensures))
    c.kept_in.ensures
