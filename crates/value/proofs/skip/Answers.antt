-- `skip` meets its contract: the position stays, or is set. Assumes nothing.
use borrow.Author.Tests.{le-leb, lt-leb}
use borrow.Author.Rules.{rules}
use Rattle.value.proofs.skip.Goals as goal

pub returns-then-target-next : goal.returns-then-target-next
returns-then-target-next c = simp (le-leb _ _ c.if-target-next.true)

pub returns-then-end-target : goal.returns-then-end-target
returns-then-end-target c = simp (lt-leb _ _ c.if-target-next.false, lt-leb _ _ c.if-end-target.true, c.refuse.ensures)

pub returns : goal.returns
returns c = simp (lt-leb _ _ c.if-target-next.false, le-leb _ _ c.if-end-target.false)
