-- `fill_in` meets its contract: the walk into so many words of its own, and then both buffers. Assumes nothing.
use native.Mathlib.Omega.{arith}
use Rattle.nest.proofs.fill_in.Goals as goal

pub whole_as_slice-read : goal.whole_as_slice-read
whole_as_slice-read g c = omega (arith, c.requires.room_in_bounds)

pub whole_as_slice-read-2 : goal.whole_as_slice-read-2
whole_as_slice-read-2 g c = omega (arith, c.requires.room_in_bounds)

pub whole_as_slice-read-3 : goal.whole_as_slice-read-3
whole_as_slice-read-3 g c = omega (arith, c.requires.room_in_bounds)

pub whole_as_slice-read-4 : goal.whole_as_slice-read-4
whole_as_slice-read-4 g c = omega (arith, c.requires.room_in_bounds)

pub whole_as_slice-read-5 : goal.whole_as_slice-read-5
whole_as_slice-read-5 g c = omega (arith, c.requires.room_in_bounds)
