-- `copy_words` meets its contract: the words so far are laid. Assumes nothing.
use mathlib.Core.Path.{◌≡◌}
use Prim.Native.Nat.{◌≤◌}
use lib.ListN.{length, take}
use Rattle.cursor.specs.Lent.{laid}
use Rattle.nest.proofs.copy_words.Given as goal

abbrev pub invariant-loop-i : goal.invariant-loop-i
invariant-loop-i l =
    (l.i ≤ length l.words) × (l.sheet ≡ laid (take l.i l.words) l.initial.sheet) × (length l.sheet ≡ length l.initial.sheet)
