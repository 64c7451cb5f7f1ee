-- `lacking` meets its contract. Assumes nothing.
use mathlib.Core.Path.{sym, ap}
use borrow.Author.Tests.{ne_eqb}
use Rattle.body.specs.Reader.{lacking_of}
use Rattle.body.proofs.reader.lacking.Goals as goal

pub returns-then-mark-eq-CLOSE_EMPTY : goal.returns-then-mark-eq-CLOSE_EMPTY
returns-then-mark-eq-CLOSE_EMPTY c = ap lacking_of (sym c.if-mark-eq-CLOSE_EMPTY.true)

pub returns-then-mark-eq-CLOSE_START : goal.returns-then-mark-eq-CLOSE_START
returns-then-mark-eq-CLOSE_START c = ap lacking_of (sym c.if-mark-eq-CLOSE_START.true)

pub returns : goal.returns
returns c = rw (ne_eqb _ _ c.if-mark-eq-CLOSE_EMPTY.false, ne_eqb _ _ c.if-mark-eq-CLOSE_START.false)
