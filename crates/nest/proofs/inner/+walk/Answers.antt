-- `walk` meets its contract: it calls itself with the remaining levels falling, and each event of its loop keeps what was noted. Assumes nothing.
use mathlib.Core.Path.{refl}
use Prim.Native.Nat.{◌-◌}
use native.Mathlib.Omega.{arith}
use Rattle.body.specs.Reader.{verdict_on}
use Rattle.nest.specs.Nested.{deepest_body, body_at, nest_at}
use Rattle.nest.proofs.Nesting.{prepended_none}
use Rattle.nest.proofs.Kept as kept
use Rattle.nest.proofs.Standing as standing
use mathlib.Core.Path.{sym, ap, ◌∙◌}
use Prim.Native.Nat.{◌+◌, ◌*◌, ◌≤◌}
use borrow.Author.Tests.{ltb-true}
use lib.ListN.{length, length-set}
use lib.Seq.{length-sets}
use Rattle.sheet.specs.Sheet.{mark_of}
use Rattle.nest.specs.Nested.{words_at}
use Rattle.nest.proofs.Noting as noting
use mathlib.Core.Path.{subst}
use mathlib.Core.Bool.{true}
use mathlib.Core.Logic.{inl, inr, ⊎_elim}
use lib.ListN.{take}
use lib.Seq.{sets, length-take-le, take_at}
use Rattle.cursor.specs.Answers.{count_answer}
use Rattle.tokens.specs.declared.Flags.{Flags}
use Rattle.nest.specs.Nested.{sheet_of, owners_of}
use Rattle.nest.specs.Pieces.{WalkRead, window_by}
use Rattle.nest.proofs.Numbers.{part_length}
use Rattle.nest.proofs.Bodies as bodies
use Rattle.nest.proofs.Closing as closing
use Rattle.nest.proofs.Moving as moving
use borrow.Author.Tests.{ltb-false}
use Rattle.nest.specs.Pieces.{last_of}
use Rattle.nest.proofs.Ending as ending
use Rattle.std.proofs.lemmas.Result.{err_from_is_err_and}
use Rattle.nest.proofs.inner.+walk.Goals as goal

pub loop-on-init : goal.loop-on-init
loop-on-init t c =
    let a = c.args in
    (record { done = _; kept = kept.kept_none (deepest_body - a.left) a.first a.sheet.now a.table.now a.marks.now a.numbers.now; rest = prepended_none _; low = c.requires.left_le_deepest_body.1; high = c.requires.left_le_deepest_body.2 }, refl, refl, refl, refl, refl, omega arith, omega arith)

pub next-stop-requires : goal.next-stop-requires
next-stop-requires t c =
    let l = c.loop-on in
    let a = c.args in
    let inner = body_at verdict_on a.s.now a.flags.inline a.left in
    let whole = nest_at a.s.now inner a.end a.flags a.first a.start in
    let p = c.requires in
    record { left_le_deepest_body = (p.left_le_deepest_body.0, p.left_le_deepest_body.3, standing.stands_near (deepest_body - a.left) a.first a.sheet.now a.table.now a.s.now inner a.end a.flags whole l.place l.n l.own l.k l.marks l.numbers l.sheet l.table l.invariant.0); marks_len = (omega (arith, l.invariant.1, l.invariant.2, p.marks_len.0), l.invariant.6, omega (arith, standing.stands_few (deepest_body - a.left) a.first a.sheet.now a.table.now a.s.now inner a.end a.flags whole l.place l.n l.own l.k l.marks l.numbers l.sheet l.table l.invariant.0)) }

pub note-requires : goal.note-requires
note-requires t c =
    let l = c.loop-on in
    let a = c.args in
    let inner = body_at verdict_on a.s.now a.flags.inline a.left in
    let whole = nest_at a.s.now inner a.end a.flags a.first a.start in
    let p = c.requires in
    let x = c.next-stop in
    let R = x.result in
    let M = x.new.marks in
    let N = x.new.numbers in
    let S = x.new.sheet in
    let d = x.ensures in
    let q = standing.reached a.left a.first a.sheet.now a.table.now a.s.now inner a.end a.flags whole l.place l.n l.own l.k l.marks l.numbers l.sheet M N S l.table R l.invariant.0 d in
    let i1 = d.marks_same ∙ l.invariant.1 in
    let i2 = d.numbers_same ∙ l.invariant.2 in
    let e = sym q.met ∙ c.in-Token.is in
    let r = ltb-true R.k (length M) (noting.token_room (deepest_body - a.left) a.first a.sheet.now a.table.now a.s.now inner a.end a.flags whole a.left _ q.from c.in-Token.on c.in-Token.t e) in
    let g = noting.on_token (deepest_body - a.left) a.first a.sheet.now a.table.now a.s.now inner a.end a.flags whole p.left_le_deepest_body.3 R.n l.own R.k M N S l.table a.left _ c.in-Token.t c.in-Token.on _ _ _ r (omega (arith, r, p.marks_len.0, i1, i2)) refl refl refl q.from q.stands e in
    let z = standing.stands_short (deepest_body - a.left) a.first a.sheet.now a.table.now a.s.now inner a.end a.flags whole c.in-Token.on (R.n + 1) R.n (R.k + 1) _ _ _ l.table g.0 in
    (r, omega (arith, r, p.marks_len.0, i1, i2), omega (arith, z, p.left_le_deepest_body.3), p.left_le_deepest_body.0)

pub loop-on-smaller-in-Token : goal.loop-on-smaller-in-Token
loop-on-smaller-in-Token t c =
    let l = c.loop-on in
    let a = c.args in
    let inner = body_at verdict_on a.s.now a.flags.inline a.left in
    let whole = nest_at a.s.now inner a.end a.flags a.first a.start in
    let p = c.requires in
    let x = c.next-stop in
    let R = x.result in
    let M = x.new.marks in
    let N = x.new.numbers in
    let S = x.new.sheet in
    let d = x.ensures in
    let q = standing.reached a.left a.first a.sheet.now a.table.now a.s.now inner a.end a.flags whole l.place l.n l.own l.k l.marks l.numbers l.sheet M N S l.table R l.invariant.0 d in
    let i1 = d.marks_same ∙ l.invariant.1 in
    let i2 = d.numbers_same ∙ l.invariant.2 in
    let e = sym q.met ∙ c.in-Token.is in
    let r = ltb-true R.k (length M) (noting.token_room (deepest_body - a.left) a.first a.sheet.now a.table.now a.s.now inner a.end a.flags whole a.left _ q.from c.in-Token.on c.in-Token.t e) in
    let E = c.note.ensures in
    let g = noting.on_token (deepest_body - a.left) a.first a.sheet.now a.table.now a.s.now inner a.end a.flags whole p.left_le_deepest_body.3 R.n l.own R.k M N S l.table a.left _ c.in-Token.t c.in-Token.on _ _ _ r (omega (arith, r, p.marks_len.0, i1, i2)) E.marks_after E.numbers_after E.sheet_after q.from q.stands e in
    standing.less_than _ _ _ g.1 q.less

pub loop-on-preserved-in-Token : goal.loop-on-preserved-in-Token
loop-on-preserved-in-Token t c =
    let l = c.loop-on in
    let a = c.args in
    let inner = body_at verdict_on a.s.now a.flags.inline a.left in
    let whole = nest_at a.s.now inner a.end a.flags a.first a.start in
    let p = c.requires in
    let x = c.next-stop in
    let R = x.result in
    let M = x.new.marks in
    let N = x.new.numbers in
    let S = x.new.sheet in
    let d = x.ensures in
    let q = standing.reached a.left a.first a.sheet.now a.table.now a.s.now inner a.end a.flags whole l.place l.n l.own l.k l.marks l.numbers l.sheet M N S l.table R l.invariant.0 d in
    let i1 = d.marks_same ∙ l.invariant.1 in
    let i2 = d.numbers_same ∙ l.invariant.2 in
    let i4 = d.sheet_same ∙ l.invariant.4 in
    let e = sym q.met ∙ c.in-Token.is in
    let r = ltb-true R.k (length M) (noting.token_room (deepest_body - a.left) a.first a.sheet.now a.table.now a.s.now inner a.end a.flags whole a.left _ q.from c.in-Token.on c.in-Token.t e) in
    let E = c.note.ensures in
    let g = noting.on_token (deepest_body - a.left) a.first a.sheet.now a.table.now a.s.now inner a.end a.flags whole p.left_le_deepest_body.3 R.n l.own R.k M N S l.table a.left _ c.in-Token.t c.in-Token.on _ _ _ r (omega (arith, r, p.marks_len.0, i1, i2)) E.marks_after E.numbers_after E.sheet_after q.from q.stands e in
    let m = ap length E.marks_after ∙ length-set M R.k (mark_of c.in-Token.t) in
    (g.0, m ∙ i1, ap length E.numbers_after ∙ length-set N R.k R.n ∙ i2, l.invariant.3, ap length E.sheet_after ∙ length-sets S (R.n * 2) (words_at (deepest_body - a.left) c.in-Token.t) ∙ i4, l.invariant.5, omega (arith, r, m), omega arith)

pub overflow_add-at : goal.overflow_add-at
overflow_add-at t c =
    let l = c.loop-on in
    let a = c.args in
    let inner = body_at verdict_on a.s.now a.flags.inline a.left in
    let whole = nest_at a.s.now inner a.end a.flags a.first a.start in
    let p = c.requires in
    let x = c.next-stop in
    let R = x.result in
    let M = x.new.marks in
    let N = x.new.numbers in
    let S = x.new.sheet in
    let d = x.ensures in
    let q = standing.reached a.left a.first a.sheet.now a.table.now a.s.now inner a.end a.flags whole l.place l.n l.own l.k l.marks l.numbers l.sheet M N S l.table R l.invariant.0 d in
    let e = sym q.met ∙ c.in-Body.is in
    let b = bodies.on_body (deepest_body - a.left) a.first a.sheet.now a.table.now a.s.now inner a.end a.flags whole p.left_le_deepest_body.3 R.n l.own R.k M N S l.table a.left _ q.from c.in-Body.back c.in-Body.at c.in-Body.size q.stands e in
    let z = bodies.body_starts (deepest_body - a.left) a.first a.sheet.now a.table.now a.s.now inner a.end a.flags whole p.left_le_deepest_body.3 R.n l.own R.k M N S l.table a.left _ q.from c.in-Body.back c.in-Body.at c.in-Body.size b in
    omega (arith, z.2, p.left_le_deepest_body.3)

pub overflow_sub-left : goal.overflow_sub-left
overflow_sub-left t c =
    let l = c.loop-on in
    let a = c.args in
    let inner = body_at verdict_on a.s.now a.flags.inline a.left in
    let whole = nest_at a.s.now inner a.end a.flags a.first a.start in
    let p = c.requires in
    let x = c.next-stop in
    let R = x.result in
    let M = x.new.marks in
    let N = x.new.numbers in
    let S = x.new.sheet in
    let d = x.ensures in
    let q = standing.reached a.left a.first a.sheet.now a.table.now a.s.now inner a.end a.flags whole l.place l.n l.own l.k l.marks l.numbers l.sheet M N S l.table R l.invariant.0 d in
    let e = sym q.met ∙ c.in-Body.is in
    let b = bodies.on_body (deepest_body - a.left) a.first a.sheet.now a.table.now a.s.now inner a.end a.flags whole p.left_le_deepest_body.3 R.n l.own R.k M N S l.table a.left _ q.from c.in-Body.back c.in-Body.at c.in-Body.size q.stands e in
    omega (arith, b.levels)

pub walk-requires : goal.walk-requires
walk-requires t c =
    let l = c.loop-on in
    let a = c.args in
    let inner = body_at verdict_on a.s.now a.flags.inline a.left in
    let whole = nest_at a.s.now inner a.end a.flags a.first a.start in
    let p = c.requires in
    let x = c.next-stop in
    let R = x.result in
    let M = x.new.marks in
    let N = x.new.numbers in
    let S = x.new.sheet in
    let d = x.ensures in
    let q = standing.reached a.left a.first a.sheet.now a.table.now a.s.now inner a.end a.flags whole l.place l.n l.own l.k l.marks l.numbers l.sheet M N S l.table R l.invariant.0 d in
    let i1 = d.marks_same ∙ l.invariant.1 in
    let i2 = d.numbers_same ∙ l.invariant.2 in
    let e = sym q.met ∙ c.in-Body.is in
    let b = bodies.on_body (deepest_body - a.left) a.first a.sheet.now a.table.now a.s.now inner a.end a.flags whole p.left_le_deepest_body.3 R.n l.own R.k M N S l.table a.left _ q.from c.in-Body.back c.in-Body.at c.in-Body.size q.stands e in
    let z = bodies.body_starts (deepest_body - a.left) a.first a.sheet.now a.table.now a.s.now inner a.end a.flags whole p.left_le_deepest_body.3 R.n l.own R.k M N S l.table a.left _ q.from c.in-Body.back c.in-Body.at c.in-Body.size b in
    let m = part_length M R.k in
    let n = part_length N R.k in
    (omega (arith, b.levels), ((omega (arith, p.left_le_deepest_body.0), z.0, z.1, p.left_le_deepest_body.3), (omega (arith, m, n, i1, i2, p.marks_len.0), omega (arith, m, i1, l.invariant.3, p.marks_len.1))))

pub loop-on-smaller-in-Body : goal.loop-on-smaller-in-Body
loop-on-smaller-in-Body t c =
    let l = c.loop-on in
    let a = c.args in
    let inner = body_at verdict_on a.s.now a.flags.inline a.left in
    let whole = nest_at a.s.now inner a.end a.flags a.first a.start in
    let p = c.requires in
    let x = c.next-stop in
    let R = x.result in
    let M = x.new.marks in
    let N = x.new.numbers in
    let S = x.new.sheet in
    let d = x.ensures in
    let q = standing.reached a.left a.first a.sheet.now a.table.now a.s.now inner a.end a.flags whole l.place l.n l.own l.k l.marks l.numbers l.sheet M N S l.table R l.invariant.0 d in
    let e = sym q.met ∙ c.in-Body.is in
    let b = bodies.on_body (deepest_body - a.left) a.first a.sheet.now a.table.now a.s.now inner a.end a.flags whole p.left_le_deepest_body.3 R.n l.own R.k M N S l.table a.left _ q.from c.in-Body.back c.in-Body.at c.in-Body.size q.stands e in
    let X =
    closing.body_is a.s.now a.flags.inline a.left R.n c.in-Body.at c.in-Body.size b.levels
    ∙ ap (λ (f : Flags). window_by a.s.now (a.left - 1) true f R.n c.in-Body.at (c.in-Body.at + c.in-Body.size)) (sym c.without_dependencies.ensures) in
    let w = subst (WalkRead _ _ _ _ _ _ _ _ _ _) (ap count_answer c.in_ok-n-in-Body.was) c.walk.ensures in
    let g = bodies.body_read (deepest_body - a.left) a.first a.sheet.now a.table.now a.s.now inner a.end a.flags whole p.left_le_deepest_body.3 R.n l.own R.k M N S l.table a.left _ q.from c.in-Body.back c.in-Body.at c.in-Body.size b w.0.entries _ M N (sets S (R.n * 2) (sheet_of w.0.entries)) (sets l.table R.n (owners_of w.0.entries)) (X ∙ w.0.holds) w.0.count (w.1 refl) refl refl refl refl in
    standing.less_than _ _ _ g.1 q.less

pub loop-on-preserved-in-Body : goal.loop-on-preserved-in-Body
loop-on-preserved-in-Body t c =
    let l = c.loop-on in
    let a = c.args in
    let inner = body_at verdict_on a.s.now a.flags.inline a.left in
    let whole = nest_at a.s.now inner a.end a.flags a.first a.start in
    let p = c.requires in
    let x = c.next-stop in
    let R = x.result in
    let M = x.new.marks in
    let N = x.new.numbers in
    let S = x.new.sheet in
    let d = x.ensures in
    let q = standing.reached a.left a.first a.sheet.now a.table.now a.s.now inner a.end a.flags whole l.place l.n l.own l.k l.marks l.numbers l.sheet M N S l.table R l.invariant.0 d in
    let i1 = d.marks_same ∙ l.invariant.1 in
    let i2 = d.numbers_same ∙ l.invariant.2 in
    let i4 = d.sheet_same ∙ l.invariant.4 in
    let i7 : l.own ≤ R.n = omega (arith, d.counted, l.invariant.7) in
    let e = sym q.met ∙ c.in-Body.is in
    let b = bodies.on_body (deepest_body - a.left) a.first a.sheet.now a.table.now a.s.now inner a.end a.flags whole p.left_le_deepest_body.3 R.n l.own R.k M N S l.table a.left _ q.from c.in-Body.back c.in-Body.at c.in-Body.size q.stands e in
    let X =
    closing.body_is a.s.now a.flags.inline a.left R.n c.in-Body.at c.in-Body.size b.levels
    ∙ ap (λ (f : Flags). window_by a.s.now (a.left - 1) true f R.n c.in-Body.at (c.in-Body.at + c.in-Body.size)) (sym c.without_dependencies.ensures) in
    let w = subst (WalkRead _ _ _ _ _ _ _ _ _ _) (ap count_answer c.in_ok-n-in-Body.was) c.walk.ensures in
    let g = bodies.body_read (deepest_body - a.left) a.first a.sheet.now a.table.now a.s.now inner a.end a.flags whole p.left_le_deepest_body.3 R.n l.own R.k M N S l.table a.left _ q.from c.in-Body.back c.in-Body.at c.in-Body.size b w.0.entries _ _ _ _ _ (X ∙ w.0.holds) w.0.count (w.1 refl) (take_at (take R.k M) _ R.k (length-take-le R.k M (d.fits))) (take_at (take R.k N) _ R.k (length-take-le R.k N (omega (arith, d.fits, i1, i2, p.marks_len.0)))) w.0.words w.0.owners in
    (g.0, omega (arith, c.marks-in-Body-1.given, i1), omega (arith, c.numbers-in-Body-1.given, i2), omega (arith, c.words-1.given, l.invariant.3), omega (arith, c.sheet-in-Body-1.given, i4), omega (arith, c.table-1.given, l.invariant.5), omega (arith, c.marks-in-Body-1.given, d.fits), omega (arith, w.0.count, i7))

pub returns-in_err-n-in-Body : goal.returns-in_err-n-in-Body
returns-in_err-n-in-Body t c =
    let l = c.loop-on in
    let a = c.args in
    let inner = body_at verdict_on a.s.now a.flags.inline a.left in
    let whole = nest_at a.s.now inner a.end a.flags a.first a.start in
    let p = c.requires in
    let x = c.next-stop in
    let R = x.result in
    let M = x.new.marks in
    let N = x.new.numbers in
    let S = x.new.sheet in
    let d = x.ensures in
    let q = standing.reached a.left a.first a.sheet.now a.table.now a.s.now inner a.end a.flags whole l.place l.n l.own l.k l.marks l.numbers l.sheet M N S l.table R l.invariant.0 d in
    let i1 = d.marks_same ∙ l.invariant.1 in
    let e = sym q.met ∙ c.in-Body.is in
    let b = bodies.on_body (deepest_body - a.left) a.first a.sheet.now a.table.now a.s.now inner a.end a.flags whole p.left_le_deepest_body.3 R.n l.own R.k M N S l.table a.left _ q.from c.in-Body.back c.in-Body.at c.in-Body.size q.stands e in
    let X =
    closing.body_is a.s.now a.flags.inline a.left R.n c.in-Body.at c.in-Body.size b.levels
    ∙ ap (λ (f : Flags). window_by a.s.now (a.left - 1) true f R.n c.in-Body.at (c.in-Body.at + c.in-Body.size)) (sym c.without_dependencies.ensures) in
    let w = subst (WalkRead _ _ _ _ _ _ _ _ _ _) (ap count_answer c.in_err-n-in-Body.was) c.walk.ensures in
    let few = standing.stands_few (deepest_body - a.left) a.first a.sheet.now a.table.now a.s.now inner a.end a.flags whole q.from R.n l.own R.k M N S l.table q.stands in
    let f = err_from_is_err_and c.from_residual.result c.from_residual.ensures.1 in
    rw (f.1, f.2)
    (⊎_elim (λ y. inl (y.0, omega (arith, y.1, few, part_length M R.k, i1, d.fits)))
    (λ y. inr (closing.refused_is (deepest_body - a.left) a.first a.inside a.start a.end _ _ _ (bodies.body_refused (deepest_body - a.left) a.first a.sheet.now a.table.now a.s.now inner a.end a.flags whole p.left_le_deepest_body.3 R.n l.own R.k M N S l.table a.left _ q.from c.in-Body.back c.in-Body.at c.in-Body.size b _ _ (X ∙ y)))) w)

pub put_words-requires : goal.put_words-requires
put_words-requires t c =
    let l = c.loop-on in
    let a = c.args in
    let inner = body_at verdict_on a.s.now a.flags.inline a.left in
    let whole = nest_at a.s.now inner a.end a.flags a.first a.start in
    let p = c.requires in
    let x = c.next-stop in
    let R = x.result in
    let M = x.new.marks in
    let N = x.new.numbers in
    let S = x.new.sheet in
    let d = x.ensures in
    let q = standing.reached a.left a.first a.sheet.now a.table.now a.s.now inner a.end a.flags whole l.place l.n l.own l.k l.marks l.numbers l.sheet M N S l.table R l.invariant.0 d in
    let i7 : l.own ≤ R.n = omega (arith, d.counted, l.invariant.7) in
    (omega (arith, standing.stands_short (deepest_body - a.left) a.first a.sheet.now a.table.now a.s.now inner a.end a.flags whole q.from R.n l.own R.k M N S l.table q.stands, i7, p.left_le_deepest_body.3), p.left_le_deepest_body.0)

pub loop-on-smaller-in-Ended : goal.loop-on-smaller-in-Ended
loop-on-smaller-in-Ended t c =
    let l = c.loop-on in
    let a = c.args in
    let inner = body_at verdict_on a.s.now a.flags.inline a.left in
    let whole = nest_at a.s.now inner a.end a.flags a.first a.start in
    let p = c.requires in
    let x = c.next-stop in
    let R = x.result in
    let M = x.new.marks in
    let N = x.new.numbers in
    let S = x.new.sheet in
    let d = x.ensures in
    let q = standing.reached a.left a.first a.sheet.now a.table.now a.s.now inner a.end a.flags whole l.place l.n l.own l.k l.marks l.numbers l.sheet M N S l.table R l.invariant.0 d in
    let e = sym q.met ∙ c.in-Ended.is in
    let g = moving.on_ended (deepest_body - a.left) a.first a.sheet.now a.table.now a.s.now inner a.end a.flags whole p.left_le_deepest_body.3 R.n l.own R.k M N S l.table a.left _ q.from c.in-Ended.after c.in-Ended.t _ q.stands e c.put_words.ensures in
    standing.less_than _ _ _ g.1 q.less

pub loop-on-preserved-in-Ended : goal.loop-on-preserved-in-Ended
loop-on-preserved-in-Ended t c =
    let l = c.loop-on in
    let a = c.args in
    let inner = body_at verdict_on a.s.now a.flags.inline a.left in
    let whole = nest_at a.s.now inner a.end a.flags a.first a.start in
    let p = c.requires in
    let x = c.next-stop in
    let R = x.result in
    let M = x.new.marks in
    let N = x.new.numbers in
    let S = x.new.sheet in
    let d = x.ensures in
    let q = standing.reached a.left a.first a.sheet.now a.table.now a.s.now inner a.end a.flags whole l.place l.n l.own l.k l.marks l.numbers l.sheet M N S l.table R l.invariant.0 d in
    let i1 = d.marks_same ∙ l.invariant.1 in
    let i2 = d.numbers_same ∙ l.invariant.2 in
    let i4 = d.sheet_same ∙ l.invariant.4 in
    let i7 : l.own ≤ R.n = omega (arith, d.counted, l.invariant.7) in
    let e = sym q.met ∙ c.in-Ended.is in
    let g = moving.on_ended (deepest_body - a.left) a.first a.sheet.now a.table.now a.s.now inner a.end a.flags whole p.left_le_deepest_body.3 R.n l.own R.k M N S l.table a.left _ q.from c.in-Ended.after c.in-Ended.t _ q.stands e c.put_words.ensures in
    (g.0, i1, i2, l.invariant.3, ap length c.put_words.ensures ∙ length-sets S (l.own * 2) (words_at (deepest_body - a.left) c.in-Ended.t) ∙ i4, l.invariant.5, d.fits, i7)

pub loop-on-smaller : goal.loop-on-smaller
loop-on-smaller t c =
    let l = c.loop-on in
    let a = c.args in
    let inner = body_at verdict_on a.s.now a.flags.inline a.left in
    let whole = nest_at a.s.now inner a.end a.flags a.first a.start in
    let p = c.requires in
    let x = c.next-stop in
    let R = x.result in
    let M = x.new.marks in
    let N = x.new.numbers in
    let S = x.new.sheet in
    let d = x.ensures in
    let q = standing.reached a.left a.first a.sheet.now a.table.now a.s.now inner a.end a.flags whole l.place l.n l.own l.k l.marks l.numbers l.sheet M N S l.table R l.invariant.0 d in
    let e = sym q.met ∙ c.in-Moved.is in
    let g = moving.on_moved (deepest_body - a.left) a.first a.sheet.now a.table.now a.s.now inner a.end a.flags whole p.left_le_deepest_body.3 R.n l.own R.k M N S l.table a.left _ q.from c.in-Moved.to q.stands e in
    standing.less_than _ _ _ g.1 q.less

pub loop-on-preserved : goal.loop-on-preserved
loop-on-preserved t c =
    let l = c.loop-on in
    let a = c.args in
    let inner = body_at verdict_on a.s.now a.flags.inline a.left in
    let whole = nest_at a.s.now inner a.end a.flags a.first a.start in
    let p = c.requires in
    let x = c.next-stop in
    let R = x.result in
    let M = x.new.marks in
    let N = x.new.numbers in
    let S = x.new.sheet in
    let d = x.ensures in
    let q = standing.reached a.left a.first a.sheet.now a.table.now a.s.now inner a.end a.flags whole l.place l.n l.own l.k l.marks l.numbers l.sheet M N S l.table R l.invariant.0 d in
    let i1 = d.marks_same ∙ l.invariant.1 in
    let i2 = d.numbers_same ∙ l.invariant.2 in
    let i4 = d.sheet_same ∙ l.invariant.4 in
    let i7 : l.own ≤ R.n = omega (arith, d.counted, l.invariant.7) in
    let e = sym q.met ∙ c.in-Moved.is in
    let g = moving.on_moved (deepest_body - a.left) a.first a.sheet.now a.table.now a.s.now inner a.end a.flags whole p.left_le_deepest_body.3 R.n l.own R.k M N S l.table a.left _ q.from c.in-Moved.to q.stands e in
    (g.0, i1, i2, l.invariant.3, i4, l.invariant.5, d.fits, i7)

pub closed-requires : goal.closed-requires
closed-requires t c =
    let l = c.loop-on in
    let a = c.args in
    let inner = body_at verdict_on a.s.now a.flags.inline a.left in
    let whole = nest_at a.s.now inner a.end a.flags a.first a.start in
    let p = c.requires in
    let x = c.next-stop in
    let R = x.result in
    let M = x.new.marks in
    let N = x.new.numbers in
    let S = x.new.sheet in
    let d = x.ensures in
    let q = standing.reached a.left a.first a.sheet.now a.table.now a.s.now inner a.end a.flags whole l.place l.n l.own l.k l.marks l.numbers l.sheet M N S l.table R l.invariant.0 d in
    let i1 = d.marks_same ∙ l.invariant.1 in
    let i2 = d.numbers_same ∙ l.invariant.2 in
    let e = sym q.met ∙ c.in-Over.is in
    let o = ending.on_over (deepest_body - a.left) a.first a.sheet.now a.table.now a.s.now inner a.end a.flags whole p.left_le_deepest_body.3 R.n l.own R.k M N S l.table a.left _ q.from c.in-Over.last q.stands e in
    let few = standing.stands_few (deepest_body - a.left) a.first a.sheet.now a.table.now a.s.now inner a.end a.flags whole q.from R.n l.own R.k M N S l.table q.stands in
    record { k_in_bounds = (d.fits, omega (arith, d.fits, i1, i2, p.marks_len.0), omega (arith, few, o.short, p.left_le_deepest_body.3), omega (arith, d.fits, i1, l.invariant.3, p.marks_len.1)); numbered = closing.kept_numbered (deepest_body - a.left) a.first a.sheet.now a.table.now o.done R.n R.k M N S l.table o.kept (omega (arith, o.short, p.left_le_deepest_body.3)) }

pub returns-in-Over : goal.returns-in-Over
returns-in-Over t c =
    let l = c.loop-on in
    let a = c.args in
    let inner = body_at verdict_on a.s.now a.flags.inline a.left in
    let whole = nest_at a.s.now inner a.end a.flags a.first a.start in
    let p = c.requires in
    let x = c.next-stop in
    let R = x.result in
    let M = x.new.marks in
    let N = x.new.numbers in
    let S = x.new.sheet in
    let d = x.ensures in
    let q = standing.reached a.left a.first a.sheet.now a.table.now a.s.now inner a.end a.flags whole l.place l.n l.own l.k l.marks l.numbers l.sheet M N S l.table R l.invariant.0 d in
    let e = sym q.met ∙ c.in-Over.is in
    let o = ending.on_over (deepest_body - a.left) a.first a.sheet.now a.table.now a.s.now inner a.end a.flags whole p.left_le_deepest_body.3 R.n l.own R.k M N S l.table a.left _ q.from c.in-Over.last q.stands e in
    let D = c.closed.ensures in
    closing.closes a.s.now (length a.marks.now) (deepest_body - a.left) a.first a.inside a.start a.end (last_of c.in-Over.last) _ o.done o.read R.n R.k o.low o.short M N a.sheet.now S a.table.now l.table _ o.kept _ D.result_value D.verdict_laid

pub returns-in-Refused : goal.returns-in-Refused
returns-in-Refused t c =
    let l = c.loop-on in
    let a = c.args in
    let inner = body_at verdict_on a.s.now a.flags.inline a.left in
    let whole = nest_at a.s.now inner a.end a.flags a.first a.start in
    let p = c.requires in
    let x = c.next-stop in
    let R = x.result in
    let M = x.new.marks in
    let N = x.new.numbers in
    let S = x.new.sheet in
    let d = x.ensures in
    let q = standing.reached a.left a.first a.sheet.now a.table.now a.s.now inner a.end a.flags whole l.place l.n l.own l.k l.marks l.numbers l.sheet M N S l.table R l.invariant.0 d in
    let i1 = d.marks_same ∙ l.invariant.1 in
    let e = sym q.met ∙ c.in-Refused.is in
    let few = standing.stands_few (deepest_body - a.left) a.first a.sheet.now a.table.now a.s.now inner a.end a.flags whole q.from R.n l.own R.k M N S l.table q.stands in
    ⊎_elim (λ y. inl (y.0, omega (arith, few, y.2, ltb-false R.k (length M) y.1, i1)))
    (λ y. inr (closing.refused_is (deepest_body - a.left) a.first a.inside a.start a.end _ _ _ y))
    (ending.on_refused (deepest_body - a.left) a.first a.sheet.now a.table.now a.s.now inner a.end a.flags whole p.left_le_deepest_body.3 R.n l.own R.k M N S l.table a.left _ q.from c.in-Refused.r q.stands (closing.body_deep a.s.now a.flags.inline a.left) e)
