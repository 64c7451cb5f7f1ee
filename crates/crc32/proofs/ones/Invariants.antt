-- `crc32::ones` meets its contract. The loop's invariant: c is what the bytes so far make of the start. Assumes nothing.
use mathlib.Core.Path.{◌≡◌}
use lib.ListN.{take}
use Rattle.crc32.specs.Crc.{crc_over}
use Rattle.crc32.proofs.ones.Given as goal

abbrev pub invariant-loop-b : goal.invariant-loop-b
invariant-loop-b l = l.c ≡ crc_over l.first (take l.b-index l.s)
