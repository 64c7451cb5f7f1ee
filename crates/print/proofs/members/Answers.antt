-- `members` meets its contract: what is still to come, put behind what is there, is the whole. Assumes nothing.
use native.Mathlib.Omega.{arith}
use Rattle.print.proofs.Putting.{nothing_yet, each_next, each_all}
use Rattle.print.proofs.members.Goals as goal

pub loop-n-init : goal.loop-n-init
loop-n-init g c = nothing_yet

pub loop-n-preserved : goal.loop-n-preserved
loop-n-preserved g c = each_next g.F.Form.text _ c.loop-n.n-index (omega arith) c.n-item.is c.put-end.ensures c.loop-n.invariant

pub returns : goal.returns
returns g c = each_all g.F.Form.text _ c.loop-n.n-index (omega arith) c.loop-n.invariant
