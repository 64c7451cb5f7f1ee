-- `behind` meets its contract. Assumes nothing.
use mathlib.Core.Path.{◌∙◌}
use native.Mathlib.Omega.{arith}
use Prim.Native.Nat.{◌-◌}
use lib.ListN.{length, drop, length-drop}
use lib.Seq.{take_all}
use Rattle.event_answers.proofs.Least.{drop_upto}
use Rattle.event_answers.proofs.behind.Goals as goal

pub returns : goal.returns
returns c =
    let l = c.args.bytes.now in
    let m = c.min.result in
    take_all (length l - m) (drop m l) (simp length-drop (omega arith)) ∙ drop_upto 4 m l c.min.ensures
