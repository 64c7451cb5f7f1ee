-- What the loop of `walk` keeps, and what falls in it and from call to call. Assumes nothing.
use mathlib.Core.Path.{◌≡◌}
use Prim.Native.Nat.{◌-◌, ◌≤◌}
use lib.ListN.{length}
use Rattle.body.specs.Reader.{verdict_on}
use Rattle.nest.specs.Nested.{deepest_body, body_at, nest_at}
use Rattle.nest.proofs.Standing as standing
use Rattle.nest.proofs.inner.+walk.Given as goal

abbrev pub decreases-walk : goal.decreases-walk
decreases-walk l = l.left

abbrev pub invariant-loop-on : goal.invariant-loop-on
invariant-loop-on l =
    standing.Stands (deepest_body - l.left) l.first l.initial.sheet l.initial.table l.s (body_at verdict_on l.s l.flags.inline l.left) l.end l.flags (nest_at l.s (body_at verdict_on l.s l.flags.inline l.left) l.end l.flags l.first l.start) l.place l.n l.own l.k l.marks l.numbers l.sheet l.table
    × (length l.marks ≡ length l.initial.marks) × (length l.numbers ≡ length l.initial.numbers) × (length l.words ≡ length l.initial.words) × (length l.sheet ≡ length l.initial.sheet) × (length l.table ≡ length l.initial.table) × (l.k ≤ length l.marks)
    × (l.own ≤ l.n)

abbrev pub decreases-loop-on : goal.decreases-loop-on
decreases-loop-on l =
    standing.left_of (deepest_body - l.left) l.first l.initial.sheet l.initial.table l.s (body_at verdict_on l.s l.flags.inline l.left) l.end l.flags (nest_at l.s (body_at verdict_on l.s l.flags.inline l.left) l.end l.flags l.first l.start) l.place
