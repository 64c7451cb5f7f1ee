-- `state` meets its contract. Assumes nothing.
use Rattle.std.specs.Int.{from_bool}
use Rattle.std.proofs.Common.{ap, ◌∙◌, rules}
use Rattle.print.proofs.Putting.{put_as}
use Rattle.chunk_answers.proofs.Texts.{state_line_lem}
use Rattle.chunk_answers.proofs.one_step.state.Goals as goal

pub returns : goal.returns
returns c =
    put_as (state_line_lem c.args.w _ _ _ (c.from.ensures ∙ ap from_bool c.is_some.ensures) c.unwrap_or.ensures c.from-2.ensures) c.line.ensures
