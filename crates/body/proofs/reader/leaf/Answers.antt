-- `leaf` meets its contract. Assumes nothing.
use mathlib.Core.Path.{sym, ◌∙◌}
use native.Mathlib.Omega.{arith}
use Rattle.body.proofs.Walking as walking
use Rattle.body.proofs.reader.leaf.Goals as goal

pub returns-then-k-eq-PI_TARGET : goal.returns-then-k-eq-PI_TARGET
returns-then-k-eq-PI_TARGET c =
    let got = c.instruction.ensures in record { further = got.further; leaf_read = λ st. got.pair_read _ _ (walking.stands_inside _ _ st) }

pub returns-then-is_leaf : goal.returns-then-is_leaf
returns-then-is_leaf c =
    let p = c.requires in record { further = omega (arith, p.0); leaf_read = λ st. walking.inside_leaf _ _ _ p.0 _ st _ (sym c.is_leaf.ensures ∙ c.if-is_leaf.true) c.put.ensures }

pub returns : goal.returns
returns c =
    let p = c.requires in rw c.refuse.ensures (record { further = tt {0}; leaf_read = λ st. walking.inside_other _ _ _ p.0 _ st p.1 p.2 c.if-k-eq-PI_TARGET.false (sym c.is_leaf.ensures ∙ c.if-is_leaf.false) })
