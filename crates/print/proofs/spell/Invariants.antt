-- `spell` meets its contract: the digits that are still to come stand before those that are written. Assumes nothing.
use mathlib.Core.Path.{◌≡◌}
use mathlib.Core.List.{◌++◌}
use lib.ListN.{length, drop}
use Rattle.print.specs.Text.{decimal_in}
use Rattle.print.proofs.spell.Given as goal

abbrev pub invariant-loop-i : goal.invariant-loop-i
invariant-loop-i l = decimal_in l.i l.rest ++ drop l.i l.digits ≡ decimal_in (length l.initial.digits) l.n
