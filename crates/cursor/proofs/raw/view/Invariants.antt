-- `view` meets its contract. The loop has passed n units, none of them zero: `sound` says whether these were well-formed so far, and `high` whether
-- the last of them is a high surrogate. Assumes nothing.
use mathlib.Core.Path.{◌≡◌}
use mathlib.Core.Bool.{◌&&◌}
use Prim.Native.Nat.{◌+◌}
use lib.ListN.{drop}
use Rattle.cursor.specs.Text.{units_of, before_zero, shown_of, well_formed_after, well_formed}
use Rattle.cursor.proofs.raw.view.Given as goal

abbrev pub invariant-loop-n : goal.invariant-loop-n
invariant-loop-n l = record {
  none_zero : before_zero (units_of l.t) ≡ l.n + before_zero (drop l.n (units_of l.t));
  formed : well_formed (shown_of (units_of l.t)) ≡ (l.sound && well_formed_after l.high (drop l.n (shown_of (units_of l.t))));
}
