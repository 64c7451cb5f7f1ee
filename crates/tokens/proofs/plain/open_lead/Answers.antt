-- `open_lead` meets its contract: one test. Assumes nothing.
use borrow.Author.Tests.{eq-eqb, ne_eqb}
use borrow.Author.Rules.{rules}
use Rattle.tokens.proofs.plain.open_lead.Goals as goal

pub returns-then-d-eq65535 : goal.returns-then-d-eq65535
returns-then-d-eq65535 c = simp (eq-eqb _ _ c.if-d-eq65535.true, c.lead_of.ensures)

pub returns-else-d-eq65535 : goal.returns-else-d-eq65535
returns-else-d-eq65535 c = simp (ne_eqb _ _ c.if-d-eq65535.false, c.lead_of-else-d-eq65535.ensures)
