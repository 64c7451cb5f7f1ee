-- `written` meets its contract: where the words are not all noted, the walk goes again. Assumes nothing.
use mathlib.Core.Bool.{false}
use mathlib.Core.Logic.{inr}
use lib.ListN.{length}
use Rattle.cursor.specs.Answers.{count_answer}
use Rattle.nest.specs.Pieces.{window_by}
use Rattle.nest.proofs.Filling.{again}
use Rattle.nest.proofs.written.Goals as goal

pub returns : goal.returns
returns c =
    let a = c.args in
    let w = c.walk in
    inr (again a.s.now (length a.marks.now) (window_by a.s.now 8 false a.flags 0 a.start a.end) a.end a.n a.own.now a.owners.now a.sheet.now _ a.table.now _ (count_answer w.result) c.requires.noted c.if-marks-s.false c.requires.n_in_bounds.0 c.requires.n_in_bounds.1 w.ensures)
