-- `nest`: each call allows one answer, and `fill` one content of the lent sheet and of the lent table; and it accepts exactly the bodies whose values'
-- bodies are in order. Assumes nothing.
use mathlib.Core.Path.{◌≡◌, refl, ap}
use contract.Lifetimes.{Lfts}
use borrow.Fn.Kinds.{Dens, res_t, ended_of}
use denote.Triple.Clauses.{AtExit}
use Rattle.cursor.specs.Answers.{count_answer}
use Rattle.body.specs.Reader.{verdict_on}
use Rattle.body.specs.Verdict.{Both, both}
use Rattle.body.proofs.Answers.{verdict_right}
use Rattle.nest.proofs.count.Kinds as countK
use Rattle.nest.proofs.count.Reads as countR
use Rattle.nest.proofs.fill.Kinds as fillK
use Rattle.nest.proofs.fill.Reads as fillR
use Rattle.promises.specs.NestWindows.{Decided}
use Rattle.promises.proofs.NestOne.{one_nested}
use Rattle.promises.proofs.NestRoom.{call_accepts}
use Rattle.promises.proofs.One.{counted_one}

pub fill : (κs : Lfts 3) (a : Dens κs fillK.ps) (x y : (res_t fillK.r κs).Denot) (s t : AtExit (ended_of 3 fillK.ps fillK.r) κs)
    → fillR.Post κs a x s → fillR.Post κs a y t
    → (x ≡ y) × (s.1.1.1.1.0.now ≡ t.1.1.1.1.0.now) × (s.1.1.1.1.1.0.now ≡ t.1.1.1.1.1.0.now)
fill κs a x y s t p q =
    let lent = both a.1.1.1.1.0.now a.1.1.1.1.1.0.now in
    let left = both s.1.1.1.1.0.now s.1.1.1.1.1.0.now in
    let left' = both t.1.1.1.1.0.now t.1.1.1.1.1.0.now in
    let e = one_nested a.0.now a.1.0 a.1.1.0 a.1.1.1.0 lent left left' (count_answer x) (count_answer y) p q in
    (counted_one x y _ e.0 refl, ap (λ (b : Both). b.sheet) e.1, ap (λ (b : Both). b.table) e.1)

-- "how many tokens there are, or the refusal"
pub count : (κs : Lfts 1) (a : Dens κs countK.ps) (x y : (res_t countK.r κs).Denot) (s t : AtExit (ended_of 1 countK.ps countK.r) κs)
    → countR.Post κs a x s → countR.Post κs a y t → x ≡ y
count κs a x y s t p q = counted_one x y _ (p verdict_on verdict_right) (q verdict_on verdict_right)

pub decides : (κs : Lfts 3) (a : Dens κs fillK.ps) (x : (res_t fillK.r κs).Denot) (s : AtExit (ended_of 3 fillK.ps fillK.r) κs) → fillR.Post κs a x s
    → Decided a.0.now a.1.0 a.1.1.0 a.1.1.1.0 (both a.1.1.1.1.0.now a.1.1.1.1.1.0.now)
    (both s.1.1.1.1.0.now s.1.1.1.1.1.0.now) (count_answer x)
decides κs a x s p =
    let lent = both a.1.1.1.1.0.now a.1.1.1.1.1.0.now in
    let left = both s.1.1.1.1.0.now s.1.1.1.1.1.0.now in
    call_accepts a.0.now a.1.0 a.1.1.0 a.1.1.1.0 lent left (count_answer x) p
