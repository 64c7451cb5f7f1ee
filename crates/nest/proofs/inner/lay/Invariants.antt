-- `lay` meets its contract: the owners of the first i tokens are set. Assumes nothing.
use mathlib.Core.Path.{◌≡◌}
use mathlib.Core.List.{map}
use Prim.Native.Nat.{◌-◌, ◌≤◌}
use lib.ListN.{length, take, drop}
use Rattle.nest.specs.Nested.{renumbered}
use Rattle.nest.specs.Pieces.{numbers_to, set_at}
use Rattle.nest.proofs.inner.lay.Given as goal

abbrev pub invariant-loop-i : goal.invariant-loop-i
invariant-loop-i l =
    (l.i ≤ l.k)
    × (set_at (drop l.i (take l.k l.numbers)) (drop l.i (map (renumbered (numbers_to l.k l.n l.numbers)) (take l.k l.words))) l.table
    ≡ set_at (take l.k l.numbers) (map (renumbered (numbers_to l.k l.n l.numbers)) (take l.k l.words)) l.initial.table) × (length l.table ≡ length l.initial.table)

abbrev pub decreases-loop-i : goal.decreases-loop-i
decreases-loop-i l = l.k - l.i
