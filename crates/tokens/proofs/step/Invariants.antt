-- `step`: after each header the step goes on from its end. Assumes nothing.
use mathlib.Core.Path.{◌≡◌}
use Prim.Native.Nat.{◌-◌}
use lib.ListN.{length}
use Rattle.tokens.specs.Walk.{step_at}
use Rattle.tokens.proofs.step.Given as goal

abbrev pub invariant-loop-met : goal.invariant-loop-met
invariant-loop-met l = step_at l.s l.end l.flags l.at ≡ step_at l.s l.end l.flags l.here

abbrev pub decreases-loop-met : goal.decreases-loop-met
decreases-loop-met l = length l.s - l.here
