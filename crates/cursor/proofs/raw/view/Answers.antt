-- `view` meets its contract. The loop has passed n units, none of them zero: `sound` says whether these were well-formed so far, and `high` whether
-- the last of them is a high surrogate. Assumes nothing.
use mathlib.Core.Path.{◌≡◌, sym, ap, ◌∙◌}
use mathlib.Core.Bool.{not, ◌&&◌}
use Prim.Native.Nat.{ℕ, ◌/◌}
use lib.ListN.{length}
use native.Mathlib.Omega.{arith}
use Rattle.cursor.specs.Pieces.{view_at}
use Rattle.cursor.specs.Text.{units_of, before_zero}
use Rattle.cursor.proofs.Units.{units_length, zero_here, zero_nowhere}
use Rattle.cursor.proofs.Views.{view_end}
use Rattle.cursor.proofs.raw.view.Goals as goal

pub returns-then-u-eq0 : goal.returns-then-u-eq0
returns-then-u-eq0 c =
    let a = c.args in
    let l = c.loop-n in
    let us = units_of a.t.now in
    let h = zero_here us l.n (omega (arith, units_length a.t.now, c.loop-n-test.true)) (sym c.unit_at-u.ensures ∙ c.if-u-eq0.true) in
    let z : before_zero us ≡ l.n = omega (arith, l.invariant.none_zero, h) in
    c.viewed.ensures ∙ view_end us l.n l.high l.sound a.at z l.invariant.formed

pub returns : goal.returns
returns c =
    let a = c.args in
    let l = c.loop-n in
    let us = units_of a.t.now in
    let h = zero_nowhere us l.n (omega (arith, units_length a.t.now, c.loop-n-test.false)) in
    let z : before_zero us ≡ l.n = omega (arith, l.invariant.none_zero, h) in
    let e : length a.t.now / 2 ≡ l.n = omega (arith, c.loop-n-test.false) in
    c.viewed-2.ensures ∙ ap (λ (k : ℕ). view_at a.at k (l.sound && not l.high)) e ∙ view_end us l.n l.high l.sound a.at z l.invariant.formed
