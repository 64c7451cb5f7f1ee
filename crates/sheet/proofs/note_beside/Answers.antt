-- `note_beside` meets its contract: after n tokens their words and marks are noted, so many words of the given sheet are right, and the rest of
-- the walk is left. Assumes nothing.
use mathlib.Core.Path.{◌≡◌, sym, ap, subst, ◌∙◌}
use mathlib.Core.List.{List}
use Prim.Native.Nat.{ℕ, ◌*◌}
use native.Mathlib.Nat.{zero-mul}
use native.Mathlib.Omega.{arith}
use borrow.Author.Rules.{rules}
use lib.ListN.{length}
use Rattle.std.specs.Prelude.{Option, None, Ok, Result}
use Rattle.std.proofs.lemmas.Result.{err_from_is_err_and}
use Rattle.cursor.specs.Answer.{Answer}
use Rattle.cursor.specs.declared.Cursor.{Cursor}
use Rattle.cursor.specs.declared.Refusal.{Refusal}
use Rattle.tokens.specs.Walk.{Met, step_answer, walk_at}
use Rattle.tokens.specs.declared.Token.{Token}
use Rattle.tokens.proofs.Reach.{Grows}
use Rattle.tokens.proofs.Steps.{step_grows, walk_is, walk_token, plus, plus_zero, plus_none, plus_before}
use Rattle.sheet.specs.Kept.{in_form}
use Rattle.sheet.specs.Noted.{form_width, RightSoFar}
use Rattle.sheet.proofs.Noting.{words, marks, set_one, both_as, read_is, noting_start, noting_next, noting_last, noting_refused}
use Rattle.sheet.proofs.Keeping.{two_in_form_lem, formed, one_more, along_start, along_next, along_over, beside_ended, beside_refused}
use Rattle.sheet.proofs.note_beside.Goals as goal

-- what a step met
met : (r : Result (Option Token × Cursor) Refusal) (x : Option Token × Cursor) (m : Option Token) (y : Answer Met) → step_answer r ≡ y → r ≡ Ok x → x.0 ≡ m → y ≡ step_answer (Ok (m, x.1))
met r x m y e f g = sym e ∙ ap step_answer f ∙ ap (λ (o : Option Token). step_answer (Ok (o, x.1))) g

pub loop-t-init : goal.loop-t-init
loop-t-init c =
    let a = c.args in (
      omega arith,
      plus_zero (walk_at a.s.now a.end a.flags a.start),
      noting_start a.s.now a.end a.flags words a.start a.words.now,
      noting_start a.s.now a.end a.flags marks a.start a.kinds.now,
      along_start a.s.now a.end a.flags (formed a.form) a.start a.given.now _ (zero-mul (form_width a.form)),
      omega arith,
      omega arith,
    )

pub loop-t-smaller : goal.loop-t-smaller
loop-t-smaller c =
    let l = c.loop-t in
    let a = c.args in
    let e = met _ _ _ _ c.step.ensures c.in_ok-t.was c.in-Some-default.is-0 in
    let h = subst (Grows l.at (length a.s.now)) e (step_grows a.s.now a.end a.flags l.at) in
    omega (arith, h.0, h.1, h.2)

pub loop-t-preserved : goal.loop-t-preserved
loop-t-preserved c =
    let l = c.loop-t in
    let a = c.args in
    let t = c.in-Some-default.t in
    let e = met _ _ _ _ c.step.ensures c.in_ok-t.was c.in-Some-default.is-0 in
    let h = subst (Grows l.at (length a.s.now)) e (step_grows a.s.now a.end a.flags l.at) in
    let first = c.first_word-first.ensures in
    let second = c.second_word-second.ensures in
    let w = both_as l.words _ (l.n * 2) _ _ _ _ c.put_words.ensures first second in
    let m = set_one l.kinds _ l.n _ _ c.put.ensures c.mark.ensures in
    let r = subst (λ (x : List ℕ). RightSoFar (l.n * form_width a.form) x a.given.now l.same c.beside-same.result) (two_in_form_lem a.form t _ _ first second) c.beside-same.ensures in (
      omega (arith, l.invariant.0, h.0, h.1),
      l.invariant.1 ∙ ap (plus l.n) (walk_token a.s.now a.end a.flags l.at _ _ e)
          ∙ plus_before l.n t (walk_at a.s.now a.end a.flags c.in_ok-t.field-0.1.at),
      noting_next a.s.now a.end a.flags words a.start l.at l.n a.words.now l.words l.invariant.2 t _ e _ w,
      noting_next a.s.now a.end a.flags marks a.start l.at l.n a.kinds.now l.kinds l.invariant.3 t _ e _ m,
      along_next a.s.now a.end a.flags (formed a.form) a.start a.given.now l.at (l.n * form_width a.form) _ l.same l.invariant.4 t _ e _ r (one_more l.n (form_width a.form)),
      omega (arith, l.invariant.0, h.0, h.1, h.2),
      l.invariant.6,
    )

pub returns : goal.returns
returns c =
    let l = c.loop-t in
    let a = c.args in
    let o : c.in_ok-t.field-0.0 ≡ None = search rules in
    let e = met _ _ _ _ c.step.ensures c.in_ok-t.was o in
    let k = l.invariant.1 ∙ ap (plus l.n) (walk_is a.s.now a.end a.flags l.at _ e) ∙ plus_none l.n in
    let right = along_over a.s.now a.end a.flags (formed a.form) a.start a.given.now l.at _ l.same l.invariant.4 (read_is a.s.now a.end a.flags l.at _ e) in
    record {
      result_value = c.ended.ensures ∙ beside_ended a.s.now a.end a.flags a.start l.n k a.form a.given.now l.same right;
      words_after = noting_last a.s.now a.end a.flags words a.start l.at l.n a.words.now l.words l.invariant.2 _ e;
      kinds_after = noting_last a.s.now a.end a.flags marks a.start l.at l.n a.kinds.now l.kinds l.invariant.3 _ e;
    }

pub returns-in_err-t : goal.returns-in_err-t
returns-in_err-t c =
    let l = c.loop-t in
    let a = c.args in
    let e = sym c.step.ensures ∙ ap step_answer c.in_err-t.was in
    let p = err_from_is_err_and c.from_residual.result c.from_residual.ensures.1 in
    rw (p.1, p.2)
    (record {
      result_value = beside_refused (in_form a.form) (walk_at a.s.now a.end a.flags a.start) a.given.now _ _ (l.invariant.1 ∙ ap (plus l.n) (walk_is a.s.now a.end a.flags l.at _ e));
      words_after = noting_refused a.s.now a.end a.flags words a.start l.at l.n a.words.now l.words l.invariant.2 _ _ e;
      kinds_after = noting_refused a.s.now a.end a.flags marks a.start l.at l.n a.kinds.now l.kinds l.invariant.3 _ _ e;
    })
