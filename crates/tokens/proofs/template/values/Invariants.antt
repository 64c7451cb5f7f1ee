-- `values`: after each value the rest of the values is left. Assumes nothing.
use mathlib.Core.Path.{◌≡◌}
use Prim.Native.Nat.{◌+◌, ◌-◌, ◌*◌, ◌≤◌}
use lib.ListN.{length}
use Rattle.tokens.specs.Instance.{values_at}
use Rattle.tokens.proofs.template.values.Given as goal

abbrev pub invariant-loop-i : goal.invariant-loop-i
invariant-loop-i l =
    (l.next.at ≤ length l.s) × (values_at l.s l.first l.fn.c.at l.count ≡ values_at l.s (l.first + 4 * l.i) l.next.at (l.count - l.i))
