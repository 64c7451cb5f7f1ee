-- `merge` meets its contract: a list is too long, or the rows are made. Assumes nothing.
use mathlib.Core.Path.{subst}
use Rattle.cursor.specs.Answers.{count_answer}
use Rattle.merge.specs.Writes.{writes_of}
use Rattle.merge.specs.Select.{Selected}
use Rattle.merge.specs.Rows.{choice_by}
use Rattle.merge.specs.declared.rows.Wins.{Wins}
use Rattle.merge.proofs.Made.{refused_first, refused_second, merged}
use Rattle.merge.proofs.merge.Goals as goal

pub returns-then-primary-gt-MOST_WRITES : goal.returns-then-primary-gt-MOST_WRITES
returns-then-primary-gt-MOST_WRITES c =
    let a = c.args in
    refused_first a.primary.now a.other.now a.rule a.res.now c.if-primary-gt-MOST_WRITES.true

pub returns-then-other-gt-MOST_WRITES : goal.returns-then-other-gt-MOST_WRITES
returns-then-other-gt-MOST_WRITES c =
    let a = c.args in
    refused_second a.primary.now a.other.now a.rule a.res.now c.if-primary-gt-MOST_WRITES.false c.if-other-gt-MOST_WRITES.true

pub selected-requires : goal.selected-requires
selected-requires c = (c.if-primary-gt-MOST_WRITES.false, c.if-other-gt-MOST_WRITES.false)

pub returns : goal.returns
returns c =
    let a = c.args in
    let s = c.selected in
    merged a.primary.now a.other.now a.rule a.res.now s.new.res (count_answer s.result) c.if-primary-gt-MOST_WRITES.false c.if-other-gt-MOST_WRITES.false
    (subst (λ (w : Wins). Selected (choice_by w) (writes_of a.primary.now) (writes_of a.other.now) a.res.now s.new.res (count_answer s.result)) c.wins.ensures s.ensures)
