-- `well_formed` meets its contract. The loop has passed n units: `sound` says whether these were well-formed so far, and `high` whether the last of
-- them is a high surrogate. Assumes nothing.
use mathlib.Core.Path.{◌≡◌}
use mathlib.Core.Bool.{◌&&◌}
use lib.ListN.{drop}
use Rattle.cursor.specs.Text.{units_of, well_formed_after, well_formed}
use Rattle.cursor.proofs.well_formed.Given as goal

abbrev pub invariant-loop-n : goal.invariant-loop-n
invariant-loop-n l = well_formed (units_of l.units) ≡ (l.sound && well_formed_after l.high (drop l.n (units_of l.units)))
