-- `sized` meets its contract: what tells its length, a string, or the rest. Assumes nothing.
use mathlib.Core.Path.{sym, ◌∙◌}
use borrow.Author.Tests.{eq-eqb, ne_eqb}
use native.Mathlib.Omega.{arith}
use lib.ListN.{length}
use Rattle.cursor.specs.Answer.{◌then◌}
use Prim.Native.Nat.{◌/◌}
use Rattle.cursor.specs.Text.{counted_at}
use Rattle.value.specs.Value.{as_text}
use Rattle.value.proofs.Inside.{a_text, movable}
use borrow.Author.Rules.{rules}
use Rattle.value.proofs.contents.sized.Goals as goal

pub returns-then-tells : goal.returns-then-tells
returns-then-tells c = simp (sym c.tells.ensures ∙ c.if-tells.true, c.told.ensures)

pub text-requires : goal.text-requires
text-requires c =
    let a = c.args in
    rw c.utf16_by_char_count.ensures (movable a.start (length a.rest.now) (counted_at a.rest.now 0 (a.size / 2) then as_text) (a_text a.rest.now (a.size / 2)) (omega arith))

pub returns-then-code-eq-STRING : goal.returns-then-code-eq-STRING
returns-then-code-eq-STRING c = simp (sym c.tells.ensures ∙ c.if-tells.false, eq-eqb _ _ c.if-code-eq-STRING.true, c.text.ensures, c.utf16_by_char_count.ensures)

pub returns : goal.returns
returns c = simp (sym c.tells.ensures ∙ c.if-tells.false, ne_eqb _ _ c.if-code-eq-STRING.false, c.by_size.ensures)
