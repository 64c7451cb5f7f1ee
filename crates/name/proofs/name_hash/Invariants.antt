-- `name_hash` meets its contract. The loop has mixed in the first n units. Assumes nothing.
use Rattle.std.proofs.Common.{◌≡◌, drop}
use Rattle.cursor.specs.Text.{units_of}
use Rattle.name.specs.Hash.{hash_from}
use Rattle.name.proofs.name_hash.Given as goal

abbrev pub invariant-loop-n : goal.invariant-loop-n
invariant-loop-n l = hash_from 0 (units_of l.units) ≡ hash_from l.h (drop l.n (units_of l.units))
