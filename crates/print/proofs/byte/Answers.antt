-- `byte` meets its contract. Assumes nothing.
use borrow.Author.Rules.{rules}
use Rattle.print.proofs.Putting.{byte_put, byte_lost}
use Rattle.print.proofs.byte.Goals as goal

pub returns-then-at-out : goal.returns-then-at-out
returns-then-at-out c = byte_put _ _ _ c.if-at-out.true

pub returns : goal.returns
returns c = byte_lost _ _ _ c.if-at-out.false
