-- `attributes` meets its contract: from the token that is looked at, the walk goes on as from the tag's first. Assumes nothing.
use mathlib.Core.Path.{◌≡◌, refl, sym, ap, ◌∙◌}
use mathlib.Core.Bool.{true}
use Prim.Native.Nat.{ℕ, ◌-◌}
use native.Mathlib.Omega.{arith}
use lib.ListN.{get_or}
use Rattle.body.specs.Reader.{walk, tag}
use Rattle.body.proofs.Moves.{closes_some}
use Rattle.body.proofs.Walking as walking
use Rattle.body.proofs.reader.attributes.Goals as goal

pub loop-i-init : goal.loop-i-init
loop-i-init c = (omega arith, omega (arith, c.requires.0), refl, λ e. refl, λ st. refl)

pub loop-i-preserved-then-k-eq-ATTRIBUTE : goal.loop-i-preserved-then-k-eq-ATTRIBUTE
loop-i-preserved-then-k-eq-ATTRIBUTE c =
    let l = c.loop-i in
    let h = c.loop-i-test.true in
    let p = c.put in (
      omega arith,
      omega arith,
      omega arith,
      λ e. absurd (omega arith),
      λ st. walking.tag_attribute _ _ _ h _ _ st _ c.if-k-eq-ATTRIBUTE.true p.ensures ∙ l.invariant.4 st,
    )

pub loop-i-preserved : goal.loop-i-preserved
loop-i-preserved c =
    let l = c.loop-i in
    let h = c.loop-i-test.true in
    let k = sym c.is_item.ensures ∙ c.if-is_item.true in
    let a = c.args in
    let q = c.requires in
    let n : l.last ≡ 0 → ⊥ = λ e. c.if-k-eq-ATTRIBUTE.false (ap (λ (x : ℕ). get_or a.marks.now x 0) (l.invariant.3 e) ∙ q.2) in
    let p = c.put-then-is_item in (
      omega arith,
      omega arith,
      omega arith,
      λ e. absurd (n e),
      λ st. walking.tag_item _ _ _ h true _ _ st _ k n p.ensures ∙ l.invariant.4 st,
    )

pub tag_end-requires : goal.tag_end-requires
tag_end-requires c = (c.loop-i-test.true, c.if-k-eq-ATTRIBUTE.false)

pub returns-else-is_item : goal.returns-else-is_item
returns-else-is_item c =
    let l = c.loop-i in
    let k = sym c.is_item.ensures ∙ c.if-is_item.false in
    let a = c.args in
    let q = c.requires in
    let n : l.last ≡ 0 → ⊥ = λ e. c.if-k-eq-ATTRIBUTE.false (ap (λ (x : ℕ). get_or a.marks.now x 0) (l.invariant.3 e) ∙ q.2) in
    let got = c.tag_end in record { tag_further = walking.tag_later _ _ _ got.result l.invariant.0 got.ensures.tag_further; tag_read = λ st. got.ensures.tag_end_read true _ (closes_some true _ (walking.above_zero _ n)) (walking.not_told _ k) st ∙ l.invariant.4 st }

pub returns : goal.returns
returns c =
    rw c.refuse.ensures (record { tag_further = tt {0}; tag_read = λ st. walking.tag_ended _ _ _ true _ _ st c.loop-i-test.false ∙ c.loop-i.invariant.4 st })

pub overflow_add-i : goal.overflow_add-i
overflow_add-i c = omega arith

pub overflow_cast-last : goal.overflow_cast-last
overflow_cast-last c = omega arith

pub loop-i-smaller-then-k-eq-ATTRIBUTE : goal.loop-i-smaller-then-k-eq-ATTRIBUTE
loop-i-smaller-then-k-eq-ATTRIBUTE c = omega arith

pub overflow_add-i-then-is_item : goal.overflow_add-i-then-is_item
overflow_add-i-then-is_item c = omega arith

pub loop-i-smaller : goal.loop-i-smaller
loop-i-smaller c = omega arith

pub shape_of-table-else-is_item : goal.shape_of-table-else-is_item
shape_of-table-else-is_item c = omega arith

pub shape_of-table : goal.shape_of-table
shape_of-table c = omega arith
