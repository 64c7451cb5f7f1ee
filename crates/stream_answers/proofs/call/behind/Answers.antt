-- `behind` meets its contract. Assumes nothing.
use borrow.Author.Rules.{rules}
use mathlib.Core.Path.{◌∙◌}
use native.Mathlib.Omega.{arith}
use Prim.Native.Nat.{◌-◌}
use lib.ListN.{length, drop, length-drop}
use lib.Seq.{take_all}
use Rattle.stream_answers.proofs.Lending.{drop_upto}
use Rattle.stream_answers.proofs.call.behind.Goals as goal

pub returns : goal.returns
returns c =
    let b = c.args.bytes.now in
    let n = c.min-from.result in
    take_all (length b - n) (drop n b) (simp length-drop (omega arith)) ∙ drop_upto b n c.args.front c.min-from.ensures
