-- `substitutions` meets its contract: each byte by its arm. Assumes nothing.
use borrow.Author.Tests.{ne_eqb}
use borrow.Author.Rules.{rules}
use Rattle.tokens.specs.Pieces.{table_from0_d}
use Rattle.tokens.proofs.plain.substitutions.Goals as goal

pub returns-in-13 : goal.returns-in-13
unfolding table_from0_d
returns-in-13 c = simp (c.in-13.is, c.substitution.ensures)

pub returns-in-14 : goal.returns-in-14
unfolding table_from0_d
returns-in-14 c = simp (c.in-14.is, c.substitution-in-14.ensures)

pub returns-in_default : goal.returns-in_default
unfolding table_from0_d
returns-in_default c =
    let k = c.args.b in
    let r = c.in_default.in_default-own.rest in
    simp (ne_eqb k 0x0D r.0.1, ne_eqb k 0x0E r.1, c.refuse.ensures)
