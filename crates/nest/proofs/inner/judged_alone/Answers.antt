-- `judged_alone` meets its contract: the grammar's verdict, and its words in the table. Assumes nothing.
use mathlib.Core.Path.{refl, ap, ◌∙◌}
use native.Mathlib.Omega.{arith}
use lib.ListN.{take}
use lib.Seq.{length-take-le}
use Rattle.cursor.specs.Answers.{count_answer}
use Rattle.nest.specs.Pieces.{numbers_to}
use Rattle.nest.proofs.Judging.{laid_alone, laid_refused}
use Rattle.nest.proofs.inner.judged_alone.Goals as goal

pub returns-in-Ok : goal.returns-in-Ok
returns-in-Ok c =
    let a = c.args in
    let j = c.judge in
    let n = length-take-le a.k a.marks.now c.requires.k_in_bounds.0 in let both = laid_alone (take a.k a.marks.now) a.table.now _ (count_answer j.result) (omega (arith, n, c.requires.k_in_bounds)) j.ensures a.k a.n a.numbers.now n c.requires.k_in_bounds.3 c.requires.k_in_bounds.1 (c.requires.numbered.2 c.requires.k_in_bounds.3) _ (ap count_answer c.in-Ok.is) in record { result_value = both.0; verdict_laid = both.1 }

pub returns-in-Err : goal.returns-in-Err
returns-in-Err c =
    let a = c.args in
    let j = c.judge in
    let n = length-take-le a.k a.marks.now c.requires.k_in_bounds.0 in
    let x = laid_refused (take a.k a.marks.now) a.table.now _ (count_answer j.result) (omega (arith, n, c.requires.k_in_bounds)) j.ensures a.n (take a.k a.numbers.now) (numbers_to a.k a.n a.numbers.now) a.table.now _ _ _ _ (ap count_answer c.in-Err.is) refl in record { result_value = c.refused_at.ensures ∙ x.0; verdict_laid = x.1 }
