-- `dependency` meets its contract: a u16, or none. Assumes nothing.
use borrow.Author.Rules.{rules}
use Rattle.tokens.proofs.plain.dependency.Goals as goal

pub returns-then-carried : goal.returns-then-carried
returns-then-carried c = simp (c.if-carried.true, c.u16.ensures)

pub returns-else-carried : goal.returns-else-carried
returns-else-carried c = simp c.if-carried.false
