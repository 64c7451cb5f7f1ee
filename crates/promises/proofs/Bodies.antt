-- Demand 3, over the contract of `body::fill`: every answer that it allows decides whether the tokens are a body. Assumes nothing.
use mathlib.Core.Path.{◌≡◌, refl, sym, ap, subst, ◌∙◌}
use mathlib.Core.List.{List}
use Prim.Native.Nat.{ℕ, ◌≤◌}
use native.Mathlib.Omega.{arith}
use lib.ListN.{length, length-map}
use contract.Lifetimes.{Lfts}
use borrow.Fn.Kinds.{Dens, res_t, ended_of}
use denote.Triple.Clauses.{AtExit}
use Rattle.cursor.specs.Answer.{Result, gives, refuses}
use Rattle.cursor.specs.Answers.{count_answer}
use Rattle.cursor.specs.Lent.{laid}
use Rattle.tokens.specs.Walk.{Walked, ok, walk_of}
use Rattle.tokens.specs.declared.Token.{Token}
use Rattle.sheet.specs.Sheet.{words_of, mark_of, marks_of}
use Rattle.body.specs.Grammar.{wide, narrow}
use Rattle.body.specs.Verdict.{Refuses, Verdict, a_body, Judged, unread, read, Both, both, both_of, both_answer, written_by, both_left, Answered}
use Rattle.body.specs.Verdict as verdict
use Rattle.body.proofs.Rules.{reading_wide}
use Rattle.body.proofs.Agree.{one_table}
use Rattle.body.proofs.One.{one_refusal, not_both}
use Rattle.body.proofs.Answers.{both_laid, counted_room}
use Rattle.body.proofs.fill.Kinds as fillK
use Rattle.body.proofs.fill.Reads as fillR
use Rattle.promises.specs.Bodies.{FormsBody, Decided, Accepted, DemandThree}

not_both_ways : {A : Type 0} (n k p : ℕ) → gives n ≡ refuses k p → A
not_both_ways n k p e = let z : ◌≡◌ {A = ℕ} 0 1 = cc in absurd (omega arith)

module _ (l : List Token) (lent left : Both) (o : Result ℕ) (sheet_room : length (words_of l) ≤ length lent.sheet) (table_room : length l ≤ length lent.table) where
  of_body : (words : List ℕ) → FormsBody l words → o ≡ both_answer (gives (both (words_of l) words)) lent → left ≡ both_left (gives (both (words_of l) words)) lent
      → Decided l lent left o
  of_body words r e f =
      let n : length words ≡ length l = r.each ∙ length-map l mark_of in
      let b = both_laid (both (words_of l) words) lent sheet_room (omega (arith, n)) in
      let a : o ≡ gives (length l) = e ∙ sym b.0 ∙ ap gives n in
      record {
        accepts = λ u x. a;
        only_bodies = λ m h.
            let z : gives m ≡ gives (length l) = sym h ∙ a in
            (cc, (words, r));
        one_reading = λ u v x y. one_table narrow narrow 64 64 (marks_of l) u v x y;
        in_wide = λ u x. reading_wide (marks_of l) u narrow 64 x;
        one_wide_table = λ limit u v x y. one_table narrow wide 64 limit (marks_of l) u v x y;
        buffers = λ u x.
            f ∙ sym b.1
            ∙ ap (λ (v : List ℕ). both (laid (words_of l) lent.sheet) (laid v lent.table)) (one_table narrow narrow 64 64 (marks_of l) words u r x);
        otherwise = λ h. absurd (h words r);
        refuses_as = λ k p y. absurd (not_both (marks_of l) words r y);
        only_refusals = λ k p h. not_both_ways (length l) k p (sym a ∙ h);
      }

  of_refusal : (k p : ℕ) → Refuses (marks_of l) k p → o ≡ refuses k p → left ≡ lent → Decided l lent left o
  of_refusal k p y e f =
      record {
        accepts = λ u x. absurd (not_both (marks_of l) u x y);
        only_bodies = λ m h. not_both_ways m k p (sym h ∙ e);
        one_reading = λ u v x z. one_table narrow narrow 64 64 (marks_of l) u v x z;
        in_wide = λ u x. reading_wide (marks_of l) u narrow 64 x;
        one_wide_table = λ limit u v x z. one_table narrow wide 64 limit (marks_of l) u v x z;
        buffers = λ u x. absurd (not_both (marks_of l) u x y);
        otherwise = λ h. (k, (p, (e, y, f)));
        refuses_as = λ m q z.
            let d = one_refusal (marks_of l) y z in
            e ∙ (λ i. refuses (d.0 i) (d.1 i));
        only_refusals = λ m q h.
            let z : refuses k p ≡ refuses m q = sym e ∙ h in
            let a : k ≡ m = cc in
            let b : p ≡ q = cc in
            subst (λ (x : ℕ). Refuses (marks_of l) m x) b (subst (λ (x : ℕ). Refuses (marks_of l) x p) a y);
      }

  by_verdict : (v : Result (List ℕ)) → Verdict (marks_of l) v → o ≡ both_answer (both_of (ok l) v) lent → left ≡ both_left (both_of (ok l) v) lent → Decided l lent left o
  by_verdict v (a_body words r) e f = of_body words r e f
  by_verdict v (verdict.refused k p y) e f = of_refusal k p y e f

pub on_tokens : (l : List Token) (v : Result (List ℕ)) → Judged (ok l) v → Verdict (marks_of l) v
on_tokens l v (read m u d) = d

decided : (lent left : Both) (w : Walked) (o : Result ℕ) → Answered lent left w o → (l : List Token) → w ≡ ok l
    → length (words_of l) ≤ length lent.sheet → length l ≤ length lent.table → Decided l lent left o
decided lent left w o x l e room room' =
    let y = subst (λ (v : Walked). Answered lent left v o) e x in
    by_verdict l lent left o room room' y.verdict (on_tokens l y.verdict y.judged) y.answer y.buffers

-- what is counted is a body with room in both
counted : (lent : Both) (n : ℕ) {w : Walked} {v : Result (List ℕ)} → Judged w v → both_answer (both_of w v) lent ≡ gives n → Accepted w lent n
counted lent n (unread k p) e = not_both_ways n k p (sym e)
counted lent n (read l v (a_body words r)) e =
    let y = counted_room (both (words_of l) words) lent n e in
    let m : length words ≡ length l = r.each ∙ length-map l mark_of in
    record { tokens = l; owners = words; walked = refl; count = sym m ∙ y.2; body = r; sheet_room = y.0; table_room = omega (arith, m, y.1) }
counted lent n (read l v (verdict.refused k p y)) e = not_both_ways n k p (sym e)

-- a refusal leaves what was lent
unwritten_by : (lent : Both) (k p : ℕ) (b : Result Both) → both_answer b lent ≡ refuses k p → both_left b lent ≡ lent
unwritten_by lent k p (gives words) e = ap (λ (a : Result ℕ). written_by a words lent) e
unwritten_by lent k p (refuses m q) e = refl

pub demands : (lent left : Both) (w : Walked) (o : Result ℕ) → Answered lent left w o → DemandThree w lent left o
demands lent left w o x =
    let at : (n : ℕ) (a : Accepted w lent n) → Decided a.tokens lent left o = λ n a. decided lent left w o x a.tokens a.walked a.sheet_room a.table_room in
    record {
      only_where = λ n e. counted lent n x.judged (sym x.answer ∙ e);
      wherever = λ n a. (at n a).accepts a.owners a.body ∙ ap gives a.count;
      only_ones = λ n a. (at n a).buffers a.owners a.body;
      unwritten = λ k p e. x.buffers ∙ unwritten_by lent k p (both_of w x.verdict) (sym x.answer ∙ e);
      decides = decided lent left w o x;
    }

pub demand_three : (κs : Lfts 3) (a : Dens κs fillK.ps) (x : (res_t fillK.r κs).Denot) (s : AtExit (ended_of 3 fillK.ps fillK.r) κs)
    → fillR.Post κs a x s
    → DemandThree (walk_of a.0.now a.1.0 a.1.1.0 a.1.1.1.0) (both a.1.1.1.1.0.now a.1.1.1.1.1.0.now)
    (both s.1.1.1.1.0.now s.1.1.1.1.1.0.now) (count_answer x)
demand_three κs a x s p = demands _ _ _ _ p
