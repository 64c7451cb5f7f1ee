-- `walk` meets its contract: the lines of the walk from its window. Assumes nothing.
use borrow.Author.Rules.{rules}
use mathlib.Core.Path.{sym, ap, ◌∙◌}
use Rattle.tokens.specs.Walk.{window_answer}
use Rattle.print.specs.Text.{each}
use Rattle.print.proofs.Putting.{put_as}
use Rattle.stream_answers.proofs.Walking.{walk_told}
use Rattle.stream_answers.proofs.walk.Goals as goal

pub returns-in-Ok : goal.returns-in-Ok
returns-in-Ok c =
    let a = c.args in
    let e = sym (ap window_answer c.in-Ok.is) ∙ c.window_of.ensures in
    put_as (sym (walk_told a.s.now a.asked.start a.asked.length a.asked.flags _ e)) c.lines.ensures

pub returns-in-Err : goal.returns-in-Err
unfolding each
returns-in-Err c =
    let a = c.args in
    let e = sym (ap window_answer c.in-Err.is) ∙ c.window_of.ensures in
    put_as (sym (walk_told a.s.now a.asked.start a.asked.length a.asked.flags _ e)) c.refused.ensures
