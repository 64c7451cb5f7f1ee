-- `numbered` meets its contract. Assumes nothing.
use borrow.Author.Rules.{rules}
use mathlib.Core.Path.{sym}
use borrow.Author.Tests.{eq-eqb, ne_eqb}
use Rattle.print.proofs.Putting.{◌▸◌, put_as, put_none}
use Rattle.stream_answers.proofs.token.numbered.Goals as goal

pub returns-then-kind-eq-CHAR_REF : goal.returns-then-kind-eq-CHAR_REF
returns-then-kind-eq-CHAR_REF c = put_as (sym (simp (eq-eqb _ _ c.if-kind-eq-CHAR_REF.true))) c.number.ensures

pub returns-then-kind-eq-SUBSTITUTION : goal.returns-then-kind-eq-SUBSTITUTION
returns-then-kind-eq-SUBSTITUTION c =
    put_as (sym (simp (ne_eqb _ _ c.if-kind-eq-CHAR_REF.false, eq-eqb _ _ c.if-kind-eq-SUBSTITUTION.true))) (c.number-a.ensures ▸ c.number-then-kind-eq-SUBSTITUTION.ensures)

pub returns : goal.returns
returns c = put_as (sym (simp (ne_eqb _ _ c.if-kind-eq-CHAR_REF.false, ne_eqb _ _ c.if-kind-eq-SUBSTITUTION.false))) put_none
