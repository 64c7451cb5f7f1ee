-- `by_size` meets its contract: bytes, a SIZE_T, an array, or a refusal. Assumes nothing.
use mathlib.Core.Path.{sym, ◌∙◌}
use borrow.Author.Tests.{lt-ltb, le-ltb, eq-eqb, ne_eqb}
use native.Mathlib.Omega.{arith}
use native.Mathlib.Nat.{add-zero}
use lib.ListN.{length}
use Rattle.cursor.specs.Answer.{◌then◌}
use Rattle.cursor.specs.Reads.{take_at, array_at}
use Rattle.value.specs.Value.{as_bytes}
use Rattle.value.proofs.Inside.{as_bytes_lem, takes, an_array, movable}
use borrow.Author.Rules.{rules}
use Rattle.value.proofs.contents.by_size.Goals as goal

pub bytes-requires : goal.bytes-requires
bytes-requires c =
    let a = c.args in
    rw c.take_bytes.ensures (movable a.start (length a.rest.now) (take_at a.rest.now 0 a.size then as_bytes) (as_bytes_lem (length a.rest.now) (take_at a.rest.now 0 a.size) (takes a.rest.now a.size)) (omega arith))

pub returns-then-takes_size : goal.returns-then-takes_size
returns-then-takes_size c = simp (sym c.takes_size.ensures ∙ c.if-takes_size.true, c.bytes.ensures, c.take_bytes.ensures)

pub returns-then-code-eq-SIZE_T : goal.returns-then-code-eq-SIZE_T
returns-then-code-eq-SIZE_T c = simp (sym c.takes_size.ensures ∙ c.if-takes_size.false, eq-eqb _ _ c.if-code-eq-SIZE_T.true, c.size_t.ensures)

pub bytes-requires-then-width-gt0 : goal.bytes-requires-then-width-gt0
bytes-requires-then-width-gt0 c =
    let a = c.args in
    let w = c.element_width-width.result in
    rw c.read_array.ensures (movable a.start (length a.rest.now) (array_at a.rest.now 0 w a.size then as_bytes) (as_bytes_lem (length a.rest.now) (array_at a.rest.now 0 w a.size) (an_array a.rest.now w a.size)) (omega arith))

pub returns-then-width-gt0 : goal.returns-then-width-gt0
returns-then-width-gt0 c =
    simp (sym c.takes_size.ensures ∙ c.if-takes_size.false, ne_eqb _ _ c.if-code-eq-SIZE_T.false, sym c.element_width-width.ensures, lt-ltb _ _ c.if-width-gt0.true, c.bytes-then-width-gt0.ensures, c.read_array.ensures)

pub returns : goal.returns
returns c =
    simp (sym c.takes_size.ensures ∙ c.if-takes_size.false, ne_eqb _ _ c.if-code-eq-SIZE_T.false, sym c.element_width-width.ensures, le-ltb _ _ c.if-width-gt0.false, c.refuse.ensures, c.not_read.ensures, add-zero)
