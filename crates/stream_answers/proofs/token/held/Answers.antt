-- `held` meets its contract. Assumes nothing.
use borrow.Author.Rules.{rules}
use mathlib.Core.Path.{sym, ap}
use Rattle.print.proofs.Putting.{put_as}
use Rattle.stream_answers.specs.Token.{by_held}
use Rattle.stream_answers.proofs.token.held.Goals as goal

pub returns-in-Nothing : goal.returns-in-Nothing
returns-in-Nothing c =
    let a = c.args in
    put_as (ap (by_held a.s.now a.t) (sym c.in-Nothing.is)) c.numbered.ensures

pub returns-in-Name : goal.returns-in-Name
returns-in-Name c =
    let a = c.args in
    put_as (ap (by_held a.s.now a.t) (sym c.in-Name.is)) c.named.ensures

pub returns-in-Text : goal.returns-in-Text
returns-in-Text c =
    let a = c.args in
    put_as (ap (by_held a.s.now a.t) (sym c.in-Text.is)) c.text.ensures

pub returns-in-Value : goal.returns-in-Value
returns-in-Value c =
    let a = c.args in
    put_as (ap (by_held a.s.now a.t) (sym c.in-Value.is)) c.sizeless.ensures

pub returns-in-Instance : goal.returns-in-Instance
returns-in-Instance c =
    let a = c.args in
    put_as (ap (by_held a.s.now a.t) (sym c.in-Instance.is)) c.instance.ensures
