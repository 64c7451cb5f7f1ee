-- `lay` meets its contract: the words so far are laid. Assumes nothing.
use mathlib.Core.Path.{◌≡◌}
use Prim.Native.Nat.{◌≤◌}
use lib.ListN.{length}
use lib.Seq.{paste}
use Rattle.cursor.proofs.lay.Given as goal

abbrev pub invariant-loop-i : goal.invariant-loop-i
invariant-loop-i l = (l.i ≤ length l.words) × (length l.words ≤ length l.initial.lent) × (l.lent ≡ paste l.initial.lent 0 l.words l.i) × (length l.lent ≡ length l.initial.lent)
