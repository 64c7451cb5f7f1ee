-- `run` meets its contract: each token is noted, and every walk goes on behind it. Assumes nothing.
use mathlib.Core.Path.{◌≡◌}
use Prim.Native.Nat.{◌+◌, ◌-◌, ◌≤◌}
use lib.ListN.{length}
use Rattle.nest.specs.Nested.{deepest_body}
use Rattle.nest.specs.Going.{Carries}
use Rattle.nest.proofs.inner.run.Given as goal

abbrev pub invariant-loop-t : goal.invariant-loop-t
invariant-loop-t l =
    Carries l.s l.end l.flags (deepest_body - l.left) l.at l.n l.k l.initial.marks l.initial.numbers l.initial.sheet l.here (l.ahead + l.i) l.i l.marks l.numbers l.sheet
    × (l.ahead + l.i ≤ l.here) × (l.here ≤ length l.s) × (l.at ≤ l.here) × (l.n ≤ l.ahead + l.i) × (l.i ≤ length l.marks)
    × (length l.marks ≡ length l.initial.marks) × (length l.numbers ≡ length l.initial.numbers) × (length l.sheet ≡ length l.initial.sheet)

abbrev pub decreases-loop-t : goal.decreases-loop-t
decreases-loop-t l = length l.s - l.here
