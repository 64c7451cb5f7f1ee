-- `leaves` meets its contract: from the token that is looked at, the walk goes on as from the first. Assumes nothing.
use mathlib.Core.Path.{◌≡◌, refl, sym, ◌∙◌}
use mathlib.Core.List.{List, ◌∷◌}
use Prim.Native.Nat.{ℕ, ◌-◌, ◌≤◌}
use native.Mathlib.Omega.{arith}
use borrow.Author.Rules.{rules}
use lib.ListN.{length}
use Rattle.body.specs.Reader.{walk, inside}
use Rattle.body.proofs.Walking as walking
use Rattle.body.proofs.reader.leaves.Goals as goal

pub loop-i-init : goal.loop-i-init
loop-i-init c = (omega arith, omega (arith, c.requires), refl, λ st. refl)

pub loop-i-preserved : goal.loop-i-preserved
loop-i-preserved c =
    let l = c.loop-i in
    let h = c.loop-i-test.true in
    let k = sym c.is_leaf.ensures ∙ c.if-is_leaf.true in
    let p = c.put in
    (omega arith, omega arith, omega arith, λ st. walking.inside_leaf _ _ _ h _ st _ k p.ensures ∙ l.invariant.3 st)

pub returns-then-k-eq-CLOSE_ELEMENT : goal.returns-then-k-eq-CLOSE_ELEMENT
returns-then-k-eq-CLOSE_ELEMENT c =
    let l = c.loop-i in
    let h = c.loop-i-test.true in
    let p = c.put-then-k-eq-CLOSE_ELEMENT in
    (λ before b. (omega arith, omega arith), λ st. walking.inside_close _ _ _ h _ st _ c.if-k-eq-CLOSE_ELEMENT.true p.ensures ∙ l.invariant.3 st)

pub returns-else-k-eq-CLOSE_ELEMENT : goal.returns-else-k-eq-CLOSE_ELEMENT
returns-else-k-eq-CLOSE_ELEMENT c =
    let l = c.loop-i in
    (λ before b. (omega arith, omega arith), λ st. l.invariant.3 st)

pub returns : goal.returns
returns c =
    let l = c.loop-i in
    (λ before b. (omega arith, omega arith), λ st. l.invariant.3 st)

pub overflow_add-i : goal.overflow_add-i
overflow_add-i c = omega arith

pub loop-i-smaller : goal.loop-i-smaller
loop-i-smaller c = omega arith

pub overflow_add-result : goal.overflow_add-result
overflow_add-result c = omega arith

pub shape_of-table-then-k-eq-CLOSE_ELEMENT : goal.shape_of-table-then-k-eq-CLOSE_ELEMENT
shape_of-table-then-k-eq-CLOSE_ELEMENT c = omega arith

pub shape_of-table-else-k-eq-CLOSE_ELEMENT : goal.shape_of-table-else-k-eq-CLOSE_ELEMENT
shape_of-table-else-k-eq-CLOSE_ELEMENT c = omega arith

pub shape_of-table : goal.shape_of-table
shape_of-table c = omega arith
