-- `step` meets its contract: after each header the step goes on from its end. Assumes nothing.
use mathlib.Core.Path.{sym, ap, subst, ◌∙◌}
use native.Mathlib.Omega.{arith}
use lib.ListN.{length}
use Rattle.std.specs.Prelude.{Ok}
use Rattle.std.proofs.lemmas.Result.{err_from_is_err_and}
use Rattle.tokens.specs.Pieces.{turn_answer}
use Rattle.tokens.specs.declared.walking.Turned.{Turned}
use Rattle.tokens.proofs.Reach.{Grows, turn_grows}
use Rattle.tokens.proofs.Steps.{step_is, step_header}
use Rattle.tokens.proofs.step.Goals as goal

pub returns-in_err-met : goal.returns-in_err-met
returns-in_err-met c =
    let a = c.args in
    let e = sym c.turn.ensures ∙ ap turn_answer c.in_err-met.was in
    let p = err_from_is_err_and c.from_residual.result c.from_residual.ensures.1 in
    rw (p.1, p.2) (sym (c.loop-met.invariant ∙ step_is a.s.now a.end a.flags c.loop-met.here _ e))

pub returns-in-Token : goal.returns-in-Token
returns-in-Token c =
    let a = c.args in
    let e = sym c.turn.ensures ∙ ap turn_answer c.in_ok-met.was ∙ ap (λ (m : Turned). turn_answer (Ok (m, c.in_ok-met.next))) c.in-Token.is in
    sym (c.loop-met.invariant ∙ step_is a.s.now a.end a.flags c.loop-met.here _ e)

pub returns-in-Over : goal.returns-in-Over
returns-in-Over c =
    let a = c.args in
    let e = sym c.turn.ensures ∙ ap turn_answer c.in_ok-met.was ∙ ap (λ (m : Turned). turn_answer (Ok (m, c.in_ok-met.next))) c.in-Over.is in
    sym (c.loop-met.invariant ∙ step_is a.s.now a.end a.flags c.loop-met.here _ e)

pub loop-met-preserved : goal.loop-met-preserved
loop-met-preserved c =
    let a = c.args in
    let e = sym c.turn.ensures ∙ ap turn_answer c.in_ok-met.was ∙ ap (λ (m : Turned). turn_answer (Ok (m, c.in_ok-met.next))) c.in-Header.is in
    c.loop-met.invariant ∙ step_header a.s.now a.end a.flags c.loop-met.here _ e

pub loop-met-smaller : goal.loop-met-smaller
loop-met-smaller c =
    let a = c.args in
    let e = sym c.turn.ensures ∙ ap turn_answer c.in_ok-met.was ∙ ap (λ (m : Turned). turn_answer (Ok (m, c.in_ok-met.next))) c.in-Header.is in
    let h = subst (Grows c.loop-met.here (length a.s.now)) e (turn_grows a.s.now a.end a.flags c.loop-met.here) in
    omega (arith, h.0, h.1)
