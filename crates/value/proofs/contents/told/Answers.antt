-- `told` meets its contract: a width, a SID, or nothing. Assumes nothing.
use mathlib.Core.Path.{sym}
use borrow.Author.Tests.{lt-ltb, le-ltb, eq-eqb, ne_eqb}
use native.Mathlib.Omega.{arith}
use native.Mathlib.Nat.{add-zero}
use lib.ListN.{length}
use Rattle.cursor.specs.Answer.{◌then◌}
use Rattle.cursor.specs.Reads.{sid_at}
use Rattle.value.specs.Value.{as_bytes}
use Rattle.value.proofs.Inside.{as_bytes_lem, a_sid, movable}
use borrow.Author.Rules.{rules}
use Rattle.value.proofs.contents.told.Goals as goal

pub returns-then-width-gt0 : goal.returns-then-width-gt0
returns-then-width-gt0 c = simp (sym c.width-width.ensures, lt-ltb _ _ c.if-width-gt0.true, c.fixed.ensures)

pub bytes-requires : goal.bytes-requires
bytes-requires c =
    let a = c.args in
    rw c.read_sid.ensures (movable a.start (length a.rest.now) (sid_at a.rest.now 0 then as_bytes) (as_bytes_lem (length a.rest.now) (sid_at a.rest.now 0) (a_sid a.rest.now)) (omega arith))

pub returns-then-code-eq-SID : goal.returns-then-code-eq-SID
returns-then-code-eq-SID c = simp (sym c.width-width.ensures, le-ltb _ _ c.if-width-gt0.false, eq-eqb _ _ c.if-code-eq-SID.true, c.bytes.ensures, c.read_sid.ensures)

pub returns : goal.returns
returns c = simp (sym c.width-width.ensures, le-ltb _ _ c.if-width-gt0.false, ne_eqb _ _ c.if-code-eq-SID.false, add-zero)
