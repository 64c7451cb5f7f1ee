-- `lay_old` meets its contract: the old words so far are laid. Assumes nothing.
use mathlib.Core.Path.{◌≡◌}
use Prim.Native.Nat.{◌≤◌}
use lib.ListN.{length, take}
use Rattle.cursor.specs.Lent.{laid}
use Rattle.kept.specs.Narrow.{old_of}
use Rattle.kept.proofs.lay_old.Given as goal

abbrev pub invariant-loop-i : goal.invariant-loop-i
invariant-loop-i l =
    (l.i ≤ length (old_of l.sheet)) × (l.old ≡ laid (take l.i (old_of l.sheet)) l.initial.old) × (length l.old ≡ length l.initial.old)
