-- `opened` meets its contract. Assumes nothing.
use borrow.Author.Rules.{rules}
use mathlib.Core.Path.{sym}
use borrow.Author.Tests.{eq-eqb, ne_eqb}
use Rattle.print.proofs.Putting.{◌▸◌, put_as, put_none}
use Rattle.stream_answers.proofs.token.opened.Goals as goal

pub returns-then-t-ne-OPEN : goal.returns-then-t-ne-OPEN
returns-then-t-ne-OPEN c = put_as (sym (simp (ne_eqb _ _ c.if-t-ne-OPEN.true))) put_none

pub returns : goal.returns
returns c =
    put_as (sym (simp (eq-eqb _ _ c.if-t-ne-OPEN.false))) (c.dependent-after.ensures ▸ c.number.ensures)
