-- `among` meets its contract: values that hold no body are passed. Assumes nothing.
use Prim.Native.Nat.{◌≤◌}
use Rattle.nest.specs.Going.{Passes}
use Rattle.nest.proofs.inner.among.Given as goal

abbrev pub invariant-loop-v : goal.invariant-loop-v
invariant-loop-v l = Passes l.s l.at l.initial.here l.here × (l.here.left ≤ l.initial.here.left)

abbrev pub decreases-loop-v : goal.decreases-loop-v
decreases-loop-v l = l.here.left
