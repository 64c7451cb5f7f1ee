-- `members` meets its contract: what is still to come, put behind what is there, is the whole. Assumes nothing.
use lib.ListN.{drop}
use Rattle.print.specs.Text.{each}
use Rattle.print.proofs.Putting.{Left}
use Rattle.print.proofs.members.Given as goal

abbrev pub invariant-loop-n : goal.invariant-loop-n
invariant-loop-n g l = Left (each g.F.Form.text (drop l.n-index l.list)) l.out l.end (each g.F.Form.text l.list) l.initial.out l.at
