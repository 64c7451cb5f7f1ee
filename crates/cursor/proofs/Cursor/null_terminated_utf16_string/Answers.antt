-- `Cursor::null_terminated_utf16_string` meets its contract: a zero unit is there, or the last unit is cut. Assumes nothing.
use mathlib.Core.Path.{ap, ◌∙◌}
use native.Mathlib.Nat.{add-zero}
use native.Mathlib.Omega.{arith}
use lib.ListN.{drop_of_length-le}
use Rattle.cursor.specs.Answers.{read_answer}
use Rattle.cursor.specs.Text.{units_of, before_zero}
use Rattle.cursor.proofs.Units.{tail, shown_within, zero_read, zero_cut}
use Rattle.cursor.proofs.Cursor.null_terminated_utf16_string.Goals as goal

pub returns-then-s-at : goal.returns-then-s-at
unfolding units_of before_zero
returns-then-s-at c =
    let a = c.args in
    simp (drop_of_length-le a.s.now {i = a.self.at} (omega arith), c.refuse.ensures, add-zero)

pub overflow_add-shown : goal.overflow_add-shown
overflow_add-shown c =
    let a = c.args in
    omega (arith, shown_within a.s.now a.self.at _ (rw (tail a.s.now a.self.at) at c.view-v.ensures))

pub overflow_add-at : goal.overflow_add-at
overflow_add-at c =
    let a = c.args in
    omega (arith, shown_within a.s.now a.self.at _ (rw (tail a.s.now a.self.at) at c.view-v.ensures))

pub returns-then-shown-t : goal.returns-then-shown-t
returns-then-shown-t c =
    let a = c.args in
    zero_read a.s.now a.self.at _ (rw (tail a.s.now a.self.at) at c.view-v.ensures) (omega arith)

pub returns-else-shown-t : goal.returns-else-shown-t
returns-else-shown-t c =
    let a = c.args in
    ap read_answer c.refuse-else-shown-t.ensures ∙ zero_cut a.s.now a.self.at _ (rw (tail a.s.now a.self.at) at c.view-v.ensures) (omega arith)
