-- `crc32::eights` meets its contract. The loop's invariant: c is what the first k eights make of the start. Assumes nothing.
use mathlib.Core.Path.{◌≡◌}
use Prim.Native.Nat.{◌*◌}
use lib.ListN.{take}
use Rattle.crc32.specs.Crc.{crc_over}
use Rattle.crc32.proofs.eights.Given as goal

abbrev pub invariant-loop-k : goal.invariant-loop-k
invariant-loop-k l = l.c ≡ crc_over l.first (take (8 * l.k) l.s)
