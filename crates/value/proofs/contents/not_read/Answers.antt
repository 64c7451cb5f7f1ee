-- `not_read` meets its contract: 8 for a known type, 7 for an unknown one. Assumes nothing.
use mathlib.Core.Path.{sym, ◌∙◌}
use borrow.Author.Rules.{rules}
use Rattle.value.proofs.contents.not_read.Goals as goal

pub returns-then-known : goal.returns-then-known
returns-then-known c = simp (sym c.known.ensures ∙ c.if-known.true)

pub returns-else-known : goal.returns-else-known
returns-else-known c = simp (sym c.known.ensures ∙ c.if-known.false)
