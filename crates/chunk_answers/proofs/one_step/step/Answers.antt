-- `step` meets its contract: too few bytes, or the lines of one step. Assumes nothing.
use Rattle.std.proofs.Common.{ap, ◌∙◌, rules}
use Rattle.print.proofs.Putting.{◌▸◌, put_as}
use Rattle.chunk.specs.Answers.{item_answer}
use Rattle.chunk_answers.specs.Lines.{row_line}
use Rattle.chunk_answers.proofs.Walking.{step_line_lem}
use Rattle.chunk_answers.proofs.Texts.{behind, step_none, step_some}
use Rattle.chunk_answers.proofs.one_step.step.Goals as goal

pub returns-then-bytes-lt-STATE : goal.returns-then-bytes-lt-STATE
returns-then-bytes-lt-STATE c = step_none c.args.bytes.now _ _ c.if-bytes-lt-STATE.true

pub returns : goal.returns
returns c =
    let s = c.args.bytes.now in
    let x = c.step-stepped.result in
    step_some s _ _ x.state (item_answer x.item) c.if-bytes-lt-STATE.false (behind s) c.state_of.ensures c.step-stepped.ensures
    (put_as (ap (row_line _) c.row.ensures ∙ step_line_lem _ (item_answer x.item)) c.line-end.ensures ▸ c.state.ensures)
