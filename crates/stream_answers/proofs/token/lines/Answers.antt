-- `lines` meets its contract: what is still to come of the walk's text, put behind what is there, is the whole. Assumes nothing.
use Rattle.std.specs.Prelude.{Ok, Option}
use borrow.Author.Rules.{rules}
use mathlib.Core.Path.{◌≡◌, sym, ap, subst, ◌∙◌}
use mathlib.Core.List.{◌++◌}
use Prim.Native.Nat.{◌-◌, ◌≤◌}
use native.Mathlib.Omega.{arith}
use lib.ListN.{length}
use Rattle.tokens.specs.Walk.{step_answer, walk_at, counted_of}
use Rattle.tokens.specs.declared.Token.{Token}
use Rattle.tokens.proofs.Reach.{Grows}
use Rattle.tokens.proofs.Steps.{step_grows}
use Rattle.sheet.specs.Sheet.{read_at}
use Rattle.print.proofs.Putting.{Left}
use Rattle.stream_answers.specs.Walk.{tokens_text, last_text}
use Rattle.stream_answers.proofs.Parts.{left_next, left_all, left_whole}
use Rattle.stream_answers.proofs.Walking.{rest, rest_first, rest_next, rest_over, rest_refused}
use Rattle.stream_answers.proofs.token.lines.Goals as goal

pub loop-t-init : goal.loop-t-init
loop-t-init c =
    let a = c.args in
    (omega arith, omega arith, left_whole (rest_first a.s.now a.end a.flags a.start))

pub line-filled-requires : goal.line-filled-requires
line-filled-requires c =
    let l = c.loop-t in
    let a = c.args in
    let e = sym c.step.ensures ∙ ap step_answer (c.in-Ok-Some-default.is ∙ ap (λ (x : Option Token). Ok (x, c.in-Ok-Some-default.next)) c.in-Ok-Some-default.field-0-0-is) in
    let h = subst (Grows l.here (length a.s.now)) e (step_grows a.s.now a.end a.flags l.here) in
    omega (arith, h.2, h.3)

pub overflow_add-n : goal.overflow_add-n
overflow_add-n c =
    let l = c.loop-t in
    let a = c.args in
    let e = sym c.step.ensures ∙ ap step_answer (c.in-Ok-Some-default.is ∙ ap (λ (x : Option Token). Ok (x, c.in-Ok-Some-default.next)) c.in-Ok-Some-default.field-0-0-is) in
    let h = subst (Grows l.here (length a.s.now)) e (step_grows a.s.now a.end a.flags l.here) in
    omega (arith, l.invariant.1, h.0, h.1, h.2)

pub loop-t-smaller : goal.loop-t-smaller
loop-t-smaller c =
    let l = c.loop-t in
    let a = c.args in
    let e = sym c.step.ensures ∙ ap step_answer (c.in-Ok-Some-default.is ∙ ap (λ (x : Option Token). Ok (x, c.in-Ok-Some-default.next)) c.in-Ok-Some-default.field-0-0-is) in
    let h = subst (Grows l.here (length a.s.now)) e (step_grows a.s.now a.end a.flags l.here) in
    omega (arith, h.0, h.1, h.2)

pub loop-t-preserved : goal.loop-t-preserved
loop-t-preserved c =
    let l = c.loop-t in
    let a = c.args in
    let e = sym c.step.ensures ∙ ap step_answer (c.in-Ok-Some-default.is ∙ ap (λ (x : Option Token). Ok (x, c.in-Ok-Some-default.next)) c.in-Ok-Some-default.field-0-0-is) in
    let h = subst (Grows l.here (length a.s.now)) e (step_grows a.s.now a.end a.flags l.here) in (
      omega arith,
      omega (arith, l.invariant.1, h.0, h.1),
      left_next l.invariant.2 (rest_next a.s.now a.end a.flags l.here l.n _ _ e) c.line-filled.ensures,
    )

pub returns-in-Ok-None-default : goal.returns-in-Ok-None-default
returns-in-Ok-None-default c =
    let l = c.loop-t in
    let a = c.args in
    let e = sym c.step.ensures ∙ ap step_answer (c.in-Ok-None-default.is ∙ ap (λ (x : Option Token). Ok (x, c.in-Ok-None-default.field-0-1)) c.in-Ok-None-default.field-0-0-is) in
    left_all l.invariant.2 (rest_over a.s.now a.end a.flags l.here l.n _ e) c.line.ensures

pub returns-in-Err : goal.returns-in-Err
returns-in-Err c =
    let l = c.loop-t in
    let a = c.args in
    let e = sym c.step.ensures ∙ ap step_answer c.in-Err.is in
    left_all l.invariant.2 (rest_refused a.s.now a.end a.flags l.here l.n _ _ e) c.refused.ensures
