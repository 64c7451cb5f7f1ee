-- `text` meets its contract: what is still to come, put behind what is there, is the whole. Assumes nothing.
use lib.ListN.{drop}
use Rattle.print.proofs.Putting.{Left}
use Rattle.print.proofs.text.Given as goal

abbrev pub invariant-loop-b : goal.invariant-loop-b
invariant-loop-b l = Left (drop l.b-index l.t) l.out l.end l.t l.initial.out l.at
