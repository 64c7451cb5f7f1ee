-- `count_in` meets its contract: a walk into no words at all. Assumes nothing.
use mathlib.Core.Bool.{false}
use mathlib.Core.Path.{subst}
use Prim.Native.Nat.{ℕ}
use native.Mathlib.Omega.{arith}
use lib.ListN.{length, replicate, length-replicate}
use Rattle.cursor.specs.Answers.{count_answer}
use Rattle.nest.specs.Pieces.{CountTried, window_by}
use Rattle.nest.proofs.Filling.{count_tried}
use Rattle.nest.proofs.count_in.Goals as goal

pub whole_as_slice-walk : goal.whole_as_slice-walk
whole_as_slice-walk g c = omega (arith, c.requires.room_in_bounds)

pub whole_as_slice-walk-2 : goal.whole_as_slice-walk-2
whole_as_slice-walk-2 g c = omega (arith, c.requires.room_in_bounds)

pub whole_as_slice-walk-3 : goal.whole_as_slice-walk-3
whole_as_slice-walk-3 g c = omega (arith, c.requires.room_in_bounds)

pub returns : goal.returns
returns g c =
    let a = c.args in
    let w = window_by a.s.now 8 false a.flags 0 a.start a.end in
    subst (λ (n : ℕ). CountTried a.s.now n w (count_answer c.walk.result)) (length-replicate {A = ℕ} g.row.N 0)
    (count_tried a.s.now (length (replicate {A = ℕ} g.row.N 0)) w a.end _ _ _ _ (count_answer c.walk.result) c.walk.ensures)
