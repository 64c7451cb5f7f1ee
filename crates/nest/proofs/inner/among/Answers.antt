-- `among` meets its contract: values that hold no body are passed. Assumes nothing.
use mathlib.Core.Path.{sym, ap, ◌∙◌}
use native.Mathlib.Omega.{arith}
use borrow.Author.Tests.{ne_eqb}
use Rattle.std.specs.Prelude.{Ok}
use Rattle.tokens.specs.Instance.{next_answer}
use Rattle.tokens.specs.declared.Token.{Token}
use Rattle.nest.specs.Pieces.{value_event}
use Rattle.nest.specs.declared.inner.Event.TheVariants as E
use Rattle.nest.specs.declared.inner.Place.TheVariants as P
use Rattle.nest.proofs.Runs.{value_passed}
use Rattle.nest.proofs.Values.{next_fewer}
use Rattle.nest.proofs.inner.among.Goals as goal

pub returns-then-v-eq-BIN_XML : goal.returns-then-v-eq-BIN_XML
returns-then-v-eq-BIN_XML c =
    let l = c.loop-v in
    let a = c.args in
    let e = sym c.next.ensures ∙ ap next_answer (c.in-Ok-Some.is ∙ ap Ok c.in-Ok-Some.field-0-is) in
    record { here = l.here; met = c.held.ensures ∙ ap (value_event a.left a.at l.here) (sym e); passes = l.invariant.0; fewer = l.invariant.1 }

pub loop-v-smaller : goal.loop-v-smaller
loop-v-smaller c =
    let l = c.loop-v in
    let a = c.args in
    let e = sym c.next.ensures ∙ ap next_answer (c.in-Ok-Some.is ∙ ap Ok c.in-Ok-Some.field-0-is) in
    next_fewer a.s.now l.here (record { value = c.in-Ok-Some.v; size = c.in-Ok-Some.size; rest = c.in-Ok-Some.rest }) e

pub loop-v-preserved : goal.loop-v-preserved
loop-v-preserved c =
    let l = c.loop-v in
    let a = c.args in
    let e = sym c.next.ensures ∙ ap next_answer (c.in-Ok-Some.is ∙ ap Ok c.in-Ok-Some.field-0-is) in
    (value_passed a.s.now c.requires a.at a.values l.here l.invariant.0 (record { value = c.in-Ok-Some.v; size = c.in-Ok-Some.size; rest = c.in-Ok-Some.rest }) e (ne_eqb _ _ c.if-v-eq-BIN_XML.false), omega (arith, next_fewer a.s.now l.here (record { value = c.in-Ok-Some.v; size = c.in-Ok-Some.size; rest = c.in-Ok-Some.rest }) e, l.invariant.1))

pub returns-in-Ok-None : goal.returns-in-Ok-None
returns-in-Ok-None c =
    let l = c.loop-v in
    let a = c.args in
    let e = sym c.next.ensures ∙ ap next_answer (c.in-Ok-None.is ∙ ap Ok c.in-Ok-None.field-0-is) in
    record { here = l.here; met = ap (λ (t : Token). E.Ended (P.Between l.here.at) t) c.instance_token.ensures ∙ ap (value_event a.left a.at l.here) (sym e); passes = l.invariant.0; fewer = l.invariant.1 }

pub returns-in-Err : goal.returns-in-Err
returns-in-Err c =
    let l = c.loop-v in
    let a = c.args in
    let e = sym c.next.ensures ∙ ap next_answer c.in-Err.is in
    record { here = l.here; met = ap (value_event a.left a.at l.here) (sym e); passes = l.invariant.0; fewer = l.invariant.1 }
