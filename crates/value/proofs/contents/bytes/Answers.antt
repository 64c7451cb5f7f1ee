-- `bytes` meets its contract: what was read is bytes, moved by the start, and so is a refusal. Assumes nothing.
use native.Mathlib.Omega.{arith}
use borrow.Author.Rules.{rules}
use Rattle.value.proofs.contents.bytes.Goals as goal

pub part_moved-requires : goal.part_moved-requires
part_moved-requires c = (rw c.in-Ok.is at c.requires).0

pub overflow_add-result : goal.overflow_add-result
overflow_add-result c = let h = rw c.in-Ok.is at c.requires in omega (arith, h.1)

pub overflow_add-start : goal.overflow_add-start
overflow_add-start c = let h = rw c.in-Err.is at c.requires in omega (arith, h)

pub returns-in-Ok : goal.returns-in-Ok
returns-in-Ok c = simp (c.in-Ok.is, c.part_moved.ensures)

pub returns-in-Err : goal.returns-in-Err
returns-in-Err c = simp (c.in-Err.is, c.refuse.ensures)
