-- `list_size` meets its contract: a u32 where it is announced. Assumes nothing.
use borrow.Author.Rules.{rules}
use Rattle.tokens.proofs.plain.list_size.Goals as goal

pub returns-then-announced : goal.returns-then-announced
returns-then-announced c = simp (c.if-announced.true, c.u32.ensures)

pub returns-else-announced : goal.returns-else-announced
returns-else-announced c = simp c.if-announced.false
