-- `fixed` meets its contract: bytes, or a number. Assumes nothing.
use borrow.Author.Tests.{eq-eqb, ne_eqb}
use native.Mathlib.Omega.{arith}
use lib.ListN.{length}
use Rattle.cursor.specs.Answer.{◌then◌}
use Rattle.cursor.specs.Reads.{take_at}
use Rattle.value.specs.Value.{as_bytes, as_number}
use Rattle.value.proofs.Inside.{as_bytes_lem, as_number_lem, takes, movable}
use borrow.Author.Rules.{rules}
use Rattle.value.proofs.contents.fixed.Goals as goal

pub bytes-requires : goal.bytes-requires
bytes-requires c =
    let a = c.args in
    rw c.take_bytes-got.ensures (movable a.start (length a.rest.now) (take_at a.rest.now 0 a.width then as_bytes) (as_bytes_lem (length a.rest.now) (take_at a.rest.now 0 a.width) (takes a.rest.now a.width)) (omega arith))

pub number-requires : goal.number-requires
number-requires c =
    let a = c.args in
    rw c.take_bytes-got.ensures (movable a.start (length a.rest.now) (take_at a.rest.now 0 a.width then as_number) (as_number_lem (length a.rest.now) (take_at a.rest.now 0 a.width) (takes a.rest.now a.width)) (omega arith))

pub returns-then-width-eq16 : goal.returns-then-width-eq16
returns-then-width-eq16 c = simp (eq-eqb _ _ c.if-width-eq16.true, c.bytes.ensures, c.take_bytes-got.ensures)

pub returns-else-width-eq16 : goal.returns-else-width-eq16
returns-else-width-eq16 c = simp (ne_eqb _ _ c.if-width-eq16.false, c.number.ensures, c.take_bytes-got.ensures)
