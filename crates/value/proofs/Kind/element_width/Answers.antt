-- `Kind::element_width` meets its contract: nothing, or the width of the element. Assumes nothing.
use borrow.Author.Tests.{lt-ltb, le-ltb}
use borrow.Author.Rules.{rules}
use Rattle.value.proofs.Kind.element_width.Goals as goal

pub returns-then-code-lt-ARRAY_OF : goal.returns-then-code-lt-ARRAY_OF
returns-then-code-lt-ARRAY_OF c = simp (lt-ltb _ _ c.if-code-lt-ARRAY_OF.true)

pub returns-else-code-lt-ARRAY_OF : goal.returns-else-code-lt-ARRAY_OF
returns-else-code-lt-ARRAY_OF c = simp (le-ltb _ _ c.if-code-lt-ARRAY_OF.false, c.width.ensures)
