-- `run` meets its contract: each token is noted, and every walk goes on behind it. Assumes nothing.
use mathlib.Core.Path.{◌≡◌, refl, sym, ap, ◌∙◌}
use Prim.Native.Nat.{ℕ, ◌+◌, ◌-◌, ◌*◌, ◌/◌, ◌<◌}
use native.Mathlib.Omega.{arith}
use Rattle.std.specs.Prelude.{min}
use lib.ListN.{length, length-set}
use lib.Seq.{length-sets}
use Rattle.std.specs.Prelude.{Ok}
use Rattle.tokens.specs.Sight.{sight_answer}
use Rattle.tokens.specs.declared.Sight.{Sight}
use Rattle.sheet.specs.Sheet.{mark_of}
use Rattle.nest.specs.Nested.{deepest_body, words_at}
use Rattle.nest.specs.Pieces.{seen_event}
use Rattle.nest.proofs.Runs.{run_from, run_on, run_token, run_header, token_spans, header_spans}
use Rattle.nest.proofs.inner.run.Goals as goal

-- a token that has room has it on both stacks, and in the sheet for both words

has_room : (places words ahead rest room i : ℕ) → rest ≡ words - ahead → room ≡ min places rest → i < room → (i < places) × (ahead + i < words)
has_room places words ahead rest room i d e u = (omega (arith, d, e, u), omega (arith, d, e, u))

pub loop-t-init : goal.loop-t-init
loop-t-init c =
    let p = c.requires in
    let a = c.args in
    let e : a.n ≡ a.n - a.k + a.k = omega (arith, p.marks_len.2) in
    (run_from a.s.now a.end a.flags (deepest_body - a.left) a.at a.n a.k a.marks.now a.numbers.now a.sheet.now e, omega (arith, p.left_le_deepest_body.2, p.marks_len.2), p.left_le_deepest_body.3, omega arith, omega (arith, p.marks_len.2), p.marks_len.1, refl, refl, refl)

pub returns-then-room-i : goal.returns-then-room-i
returns-then-room-i c =
    let l = c.loop-t in
    let e = sym c.look.ensures ∙ ap sight_answer (c.in-Ok-Token-default.is ∙ ap (λ (x : Sight). Ok (x, c.in-Ok-Token-default.c)) c.in-Ok-Token-default.field-0-0-is) in
    record { here = l.here; onward = l.invariant.3; met = c.placed.ensures ∙ ap (seen_event _ l.here) (sym e); carries = l.invariant.0; counted = l.invariant.4; fits = l.invariant.5; marks_same = l.invariant.6; numbers_same = l.invariant.7; sheet_same = l.invariant.8 }

pub note_whole-requires : goal.note_whole-requires
note_whole-requires c =
    let l = c.loop-t in
    let a = c.args in
    let p = c.requires in
    let e = sym c.look.ensures ∙ ap sight_answer (c.in-Ok-Token-default.is ∙ ap (λ (x : Sight). Ok (x, c.in-Ok-Token-default.c)) c.in-Ok-Token-default.field-0-0-is) in
    let z = token_spans a.s.now a.end a.flags l.here c.in-Ok-Token-default.t c.in-Ok-Token-default.c.at e in
    let r = has_room (length a.marks.now) (length a.sheet.now / 2) (a.n - a.k) c.saturating_sub.result c.min-room.result l.i c.saturating_sub.ensures c.min-room.ensures c.if-room-i.false in record { k_in_bounds = (omega (arith, r.0, l.invariant.6), omega (arith, r.0, l.invariant.7, p.marks_len.0), omega (arith, z.0, z.1, l.invariant.1, p.left_le_deepest_body.1), p.left_le_deepest_body.0); n_in_bounds = omega (arith, r.1, l.invariant.8) }

pub loop-t-smaller-in-Ok-Token-default : goal.loop-t-smaller-in-Ok-Token-default
loop-t-smaller-in-Ok-Token-default c =
    let l = c.loop-t in
    let a = c.args in
    let p = c.requires in
    let e = sym c.look.ensures ∙ ap sight_answer (c.in-Ok-Token-default.is ∙ ap (λ (x : Sight). Ok (x, c.in-Ok-Token-default.c)) c.in-Ok-Token-default.field-0-0-is) in
    let z = token_spans a.s.now a.end a.flags l.here c.in-Ok-Token-default.t c.in-Ok-Token-default.c.at e in
    omega (arith, z.0, z.1)

pub loop-t-preserved-in-Ok-Token-default : goal.loop-t-preserved-in-Ok-Token-default
loop-t-preserved-in-Ok-Token-default c =
    let l = c.loop-t in
    let a = c.args in
    let p = c.requires in
    let e = sym c.look.ensures ∙ ap sight_answer (c.in-Ok-Token-default.is ∙ ap (λ (x : Sight). Ok (x, c.in-Ok-Token-default.c)) c.in-Ok-Token-default.field-0-0-is) in
    let z = token_spans a.s.now a.end a.flags l.here c.in-Ok-Token-default.t c.in-Ok-Token-default.c.at e in
    let u = c.if-room-i.false in
    let E = c.note_whole.ensures in
    let R = has_room (length a.marks.now) (length a.sheet.now / 2) (a.n - a.k) c.saturating_sub.result c.min-room.result l.i c.saturating_sub.ensures c.min-room.ensures u in
    let r : l.i < length l.marks = omega (arith, R.0, l.invariant.6) in
    let n : a.n - a.k + l.i + 1 ≡ a.n - a.k + (l.i + 1) = omega arith in
    let m = ap length E.marks_after ∙ length-set l.marks l.i (mark_of c.in-Ok-Token-default.t) in
    (run_on a.s.now a.end a.flags (deepest_body - a.left) a.at a.n a.k a.marks.now a.numbers.now a.sheet.now c.in-Ok-Token-default.c.at (l.i + 1) _ _ _ _ _ n (run_token a.s.now a.end a.flags (deepest_body - a.left) p.left_le_deepest_body.1 a.at a.n a.k a.marks.now a.numbers.now a.sheet.now l.here (a.n - a.k + l.i) l.i l.marks l.numbers l.sheet l.invariant.0 c.in-Ok-Token-default.t c.in-Ok-Token-default.c.at _ _ _ e r (omega (arith, r, l.invariant.6, l.invariant.7, p.marks_len.0)) E.marks_after E.numbers_after E.sheet_after), omega (arith, z.0, l.invariant.1), z.1, omega (arith, z.0, l.invariant.3), omega (arith, l.invariant.4), omega (arith, r, m), m ∙ l.invariant.6, ap length E.numbers_after ∙ length-set l.numbers l.i (a.n - a.k + l.i) ∙ l.invariant.7, ap length E.sheet_after ∙ length-sets l.sheet ((a.n - a.k + l.i) * 2) (words_at (deepest_body - a.left) c.in-Ok-Token-default.t) ∙ l.invariant.8)

pub returns-in-Ok-Instance-default : goal.returns-in-Ok-Instance-default
returns-in-Ok-Instance-default c =
    let l = c.loop-t in
    let a = c.args in
    let p = c.requires in
    let e = sym c.look.ensures ∙ ap sight_answer (c.in-Ok-Instance-default.is ∙ ap (λ (x : Sight). Ok (x, c.in-Ok-Instance-default.c)) c.in-Ok-Instance-default.field-0-0-is) in
    record { here = l.here; onward = l.invariant.3; met = c.began.ensures ∙ ap (seen_event _ l.here) (sym e); carries = l.invariant.0; counted = l.invariant.4; fits = l.invariant.5; marks_same = l.invariant.6; numbers_same = l.invariant.7; sheet_same = l.invariant.8 }

pub loop-t-smaller : goal.loop-t-smaller
loop-t-smaller c =
    let l = c.loop-t in
    let a = c.args in
    let p = c.requires in
    let e = sym c.look.ensures ∙ ap sight_answer (c.in-Ok-Header-default.is ∙ ap (λ (x : Sight). Ok (x, c.in-Ok-Header-default.c)) c.in-Ok-Header-default.field-0-0-is) in
    let z = header_spans a.s.now a.end a.flags l.here c.in-Ok-Header-default.c.at e in
    omega (arith, z.0, z.1)

pub loop-t-preserved : goal.loop-t-preserved
loop-t-preserved c =
    let l = c.loop-t in
    let a = c.args in
    let p = c.requires in
    let e = sym c.look.ensures ∙ ap sight_answer (c.in-Ok-Header-default.is ∙ ap (λ (x : Sight). Ok (x, c.in-Ok-Header-default.c)) c.in-Ok-Header-default.field-0-0-is) in
    let z = header_spans a.s.now a.end a.flags l.here c.in-Ok-Header-default.c.at e in
    (run_header a.s.now a.end a.flags (deepest_body - a.left) p.left_le_deepest_body.1 a.at a.n a.k a.marks.now a.numbers.now a.sheet.now l.here (a.n - a.k + l.i) l.i l.marks l.numbers l.sheet l.invariant.0 c.in-Ok-Header-default.c.at e, omega (arith, z.0, l.invariant.1), z.1, omega (arith, z.0, l.invariant.3), l.invariant.4, l.invariant.5, l.invariant.6, l.invariant.7, l.invariant.8)

pub returns-in-Ok-Over-default : goal.returns-in-Ok-Over-default
returns-in-Ok-Over-default c =
    let l = c.loop-t in
    let a = c.args in
    let p = c.requires in
    let e = sym c.look.ensures ∙ ap sight_answer (c.in-Ok-Over-default.is ∙ ap (λ (x : Sight). Ok (x, c.in-Ok-Over-default.c)) c.in-Ok-Over-default.field-0-0-is) in
    record { here = l.here; onward = l.invariant.3; met = ap (seen_event _ l.here) (sym e); carries = l.invariant.0; counted = l.invariant.4; fits = l.invariant.5; marks_same = l.invariant.6; numbers_same = l.invariant.7; sheet_same = l.invariant.8 }

pub returns-in-Err : goal.returns-in-Err
returns-in-Err c =
    let l = c.loop-t in
    let a = c.args in
    let p = c.requires in
    let e = sym c.look.ensures ∙ ap sight_answer c.in-Err.is in
    record { here = l.here; onward = l.invariant.3; met = ap (seen_event _ l.here) (sym e); carries = l.invariant.0; counted = l.invariant.4; fits = l.invariant.5; marks_same = l.invariant.6; numbers_same = l.invariant.7; sheet_same = l.invariant.8 }
