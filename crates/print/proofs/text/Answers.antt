-- `text` meets its contract: what is still to come, put behind what is there, is the whole. Assumes nothing.
use native.Mathlib.Omega.{arith}
use Rattle.print.proofs.Putting.{nothing_yet, text_next, text_all}
use Rattle.print.proofs.text.Goals as goal

pub loop-b-init : goal.loop-b-init
loop-b-init c = nothing_yet

pub loop-b-preserved : goal.loop-b-preserved
loop-b-preserved c = text_next _ c.loop-b.b-index (omega arith) c.byte-end.ensures c.loop-b.invariant

pub returns : goal.returns
returns c = text_all _ c.loop-b.b-index (omega arith) c.loop-b.invariant
