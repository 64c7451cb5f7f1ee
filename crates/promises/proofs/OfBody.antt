-- `body`: each call allows one answer, and one content of the lent sheet and of the lent table, or of the working words. Assumes nothing.
use mathlib.Core.Path.{◌≡◌, refl, sym, ap, ◌∙◌}
use mathlib.Core.List.{List}
use Prim.Native.Nat.{ℕ}
use contract.Lifetimes.{Lfts}
use borrow.Fn.Kinds.{Dens, res_t, ended_of}
use denote.Triple.Clauses.{AtExit}
use Rattle.cursor.specs.Answer.{Result, refuses}
use Rattle.cursor.specs.Refusals.{wrong_length}
use Rattle.body.specs.Marks.{count_of, unless_long}
use Rattle.body.specs.Verdict.{Both}
use Rattle.body.proofs.One.{one_answer, one_verdict}
use Rattle.body.proofs.fill.Kinds as fillK
use Rattle.body.proofs.fill.Reads as fillR
use Rattle.body.proofs.judge.Kinds as judgeK
use Rattle.body.proofs.judge.Reads as judgeR
use Rattle.promises.proofs.One.{counted_one}

pub fill : (κs : Lfts 3) (a : Dens κs fillK.ps) (x y : (res_t fillK.r κs).Denot) (s t : AtExit (ended_of 3 fillK.ps fillK.r) κs)
    → fillR.Post κs a x s → fillR.Post κs a y t
    → (x ≡ y) × (s.1.1.1.1.0.now ≡ t.1.1.1.1.0.now) × (s.1.1.1.1.1.0.now ≡ t.1.1.1.1.1.0.now)
fill κs a x y s t p q =
    let e = one_answer _ _ _ p q in
    (counted_one x y _ e.0 refl, ap (λ (b : Both). b.sheet) e.1, ap (λ (b : Both). b.table) e.1)

pub judge : (κs : Lfts 2) (a : Dens κs judgeK.ps) (x y : (res_t judgeK.r κs).Denot) (s t : AtExit (ended_of 2 judgeK.ps judgeK.r) κs)
    → judgeR.Post κs a x s → judgeR.Post κs a y t → (x ≡ y) × (s.1.0.now ≡ t.1.0.now)
judge κs a x y s t p q =
    let marks : List ℕ = a.0.now in
    let e = one_verdict marks p.judged q.judged in
    let o = p.answer ∙ ap (λ (v : Result (List ℕ)). unless_long marks (refuses wrong_length 0) (count_of v)) e ∙ sym q.answer in
    (counted_one x y _ o refl, p.noted ∙ sym q.noted)
