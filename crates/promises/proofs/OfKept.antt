-- `kept`: each call allows one answer and one content of the lent words. Assumes nothing.
use mathlib.Core.Path.{◌≡◌, sym, ◌∙◌}
use contract.Lifetimes.{Lfts}
use borrow.Fn.Kinds.{Dens, res_t, ended_of}
use denote.Triple.Clauses.{AtExit}
use Rattle.kept.proofs.widen.Kinds as widenK
use Rattle.kept.proofs.widen.Reads as widenR
use Rattle.kept.proofs.narrow.Kinds as narrowK
use Rattle.kept.proofs.narrow.Reads as narrowR
use Rattle.promises.proofs.One.{counted_one}

pub widen : (κs : Lfts 3) (a : Dens κs widenK.ps) (x y : (res_t widenK.r κs).Denot) (s t : AtExit (ended_of 3 widenK.ps widenK.r) κs)
    → widenR.Post κs a x s → widenR.Post κs a y t → (x ≡ y) × (s.1.1.1.1.1.0.now ≡ t.1.1.1.1.1.0.now)
widen κs a x y s t p q = (counted_one x y _ p.0 q.0, p.1 ∙ sym q.1)

pub narrow : (κs : Lfts 3) (a : Dens κs narrowK.ps) (x y : (res_t narrowK.r κs).Denot) (s t : AtExit (ended_of 3 narrowK.ps narrowK.r) κs)
    → narrowR.Post κs a x s → narrowR.Post κs a y t → (x ≡ y) × (s.1.1.1.1.1.0.now ≡ t.1.1.1.1.1.0.now)
narrow κs a x y s t p q = (counted_one x y _ p.0 q.0, p.1 ∙ sym q.1)
