-- `spell` meets its contract: the digits that are still to come stand before those that are written. Assumes nothing.
use Prim.Native.Nat.{ℕ, ◌-◌}
use mathlib.Core.Path.{◌≡◌, sym, ap, ◌∙◌}
use native.Mathlib.Omega.{arith}
use lib.ListN.{drop}
use Rattle.print.proofs.Spelling.{spell_next, spell_last, spell_end, small_digit, step_as}
use Rattle.print.proofs.spell.Goals as goal

pub loop-i-preserved : goal.loop-i-preserved
loop-i-preserved c =
    let l = c.loop-i in
    let w = step_as _ l.i l.rest l.digits (omega (arith, c.loop-i-test.true)) l.invariant in
    spell_next l.digits _ (l.i - 1) l.rest _ (omega arith) w (omega arith) c.digit.ensures

pub returns-then-rest-lt10-clause-digits_after : goal.returns-then-rest-lt10-clause-digits_after
returns-then-rest-lt10-clause-digits_after c =
    let l = c.loop-i in
    let w = step_as _ l.i l.rest l.digits (omega (arith, c.loop-i-test.true)) l.invariant in
    spell_last l.digits _ (l.i - 1) l.rest _ (omega arith) w c.if-rest-lt10.true (c.digit.ensures ∙ small_digit l.rest c.if-rest-lt10.true)

pub returns-clause-digits_after : goal.returns-clause-digits_after
returns-clause-digits_after c =
    let l = c.loop-i in
    let e : l.i ≡ 0 = omega (arith, c.loop-i-test.false) in
    ap (λ (k : ℕ). drop k l.digits) (sym e) ∙ spell_end _ l.i l.rest l.digits e l.invariant
