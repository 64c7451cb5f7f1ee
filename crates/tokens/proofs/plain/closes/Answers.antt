-- `closes` meets its contract: each byte by its arm. Assumes nothing.
use borrow.Author.Tests.{ne_eqb}
use borrow.Author.Rules.{rules}
use Rattle.tokens.specs.Pieces.{table_from02}
use Rattle.tokens.proofs.plain.closes.Goals as goal

pub returns-in-2 : goal.returns-in-2
unfolding table_from02
returns-in-2 c = simp (c.in-2.is, c.bare.ensures)

pub returns-in-3 : goal.returns-in-3
unfolding table_from02
returns-in-3 c = simp (c.in-3.is, c.bare-in-3.ensures)

pub returns-in-4 : goal.returns-in-4
unfolding table_from02
returns-in-4 c = simp (c.in-4.is, c.bare-in-4.ensures)

pub returns-in_default : goal.returns-in_default
unfolding table_from02
returns-in_default c =
    let k = c.args.b in
    let r = c.in_default.in_default-own.rest in
    simp (ne_eqb k 0x02 r.0.0.1, ne_eqb k 0x03 r.0.1, ne_eqb k 0x04 r.1, c.contents.ensures)
