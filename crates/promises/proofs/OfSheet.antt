-- `sheet`: each call allows one answer and one content of what was lent. Assumes nothing.
use mathlib.Core.Path.{◌≡◌, sym, ◌∙◌}
use contract.Lifetimes.{Lfts}
use borrow.Fn.Kinds.{Dens, res_t, ended_of}
use denote.Triple.Clauses.{AtExit}
use Rattle.sheet.proofs.count.Kinds as countK
use Rattle.sheet.proofs.count.Reads as countR
use Rattle.sheet.proofs.count_beside.Kinds as countBesideK
use Rattle.sheet.proofs.count_beside.Reads as countBesideR
use Rattle.sheet.proofs.fill.Kinds as fillK
use Rattle.sheet.proofs.fill.Reads as fillR
use Rattle.sheet.proofs.fill_beside.Kinds as fillBesideK
use Rattle.sheet.proofs.fill_beside.Reads as fillBesideR
use Rattle.sheet.proofs.note.Kinds as noteK
use Rattle.sheet.proofs.note.Reads as noteR
use Rattle.sheet.proofs.note_beside.Kinds as noteBesideK
use Rattle.sheet.proofs.note_beside.Reads as noteBesideR
use Rattle.sheet.proofs.mark.Kinds as markK
use Rattle.sheet.proofs.mark.Reads as markR
use Rattle.sheet.proofs.first_word.Kinds as firstK
use Rattle.sheet.proofs.first_word.Reads as firstR
use Rattle.sheet.proofs.second_word.Kinds as secondK
use Rattle.sheet.proofs.second_word.Reads as secondR
use Rattle.sheet.proofs.without_bit.Kinds as withoutBitK
use Rattle.sheet.proofs.without_bit.Reads as withoutBitR
use Rattle.sheet.proofs.put.Kinds as putK
use Rattle.sheet.proofs.put.Reads as putR
use denote.RattleType.{RattleType}
use denote.Param.Laws.{Laws, IsCopy}
use Rattle.std.specs.declared.clone.Clone.{Ghosts}
use mir.Syntax.{Dict}
use Rattle.promises.proofs.One.{Single, counted_one}

pub count : Single 1 countK.ps countK.r countR.Post
count κs a x y s t p q = counted_one x y _ p q

pub count_beside : Single 2 countBesideK.ps countBesideK.r countBesideR.Post
count_beside κs a x y s t p q = counted_one x y _ p q

pub mark : Single 0 markK.ps markK.r markR.Post
mark κs a x y s t p q = p ∙ sym q

pub first_word : Single 0 firstK.ps firstK.r firstR.Post
first_word κs a x y s t p q = p ∙ sym q

pub second_word : Single 0 secondK.ps secondK.r secondR.Post
second_word κs a x y s t p q = p ∙ sym q

pub without_bit : Single 0 withoutBitK.ps withoutBitK.r withoutBitR.Post
without_bit κs a x y s t p q = p ∙ sym q

pub fill : (κs : Lfts 2) (a : Dens κs fillK.ps) (x y : (res_t fillK.r κs).Denot) (s t : AtExit (ended_of 2 fillK.ps fillK.r) κs)
    → fillR.Post κs a x s → fillR.Post κs a y t → (x ≡ y) × (s.1.1.1.1.0.now ≡ t.1.1.1.1.0.now)
fill κs a x y s t p q = (counted_one x y _ p.0 q.0, p.1 ∙ sym q.1)

pub note : (κs : Lfts 3) (a : Dens κs noteK.ps) (x y : (res_t noteK.r κs).Denot) (s t : AtExit (ended_of 3 noteK.ps noteK.r) κs)
    → noteR.Post κs a x s → noteR.Post κs a y t
    → (x ≡ y) × (s.1.1.1.1.0.now ≡ t.1.1.1.1.0.now) × (s.1.1.1.1.1.0.now ≡ t.1.1.1.1.1.0.now)
note κs a x y s t p q = (counted_one x y _ p.0 q.0, p.1.0 ∙ sym q.1.0, p.1.1 ∙ sym q.1.1)

pub fill_beside : (κs : Lfts 3) (a : Dens κs fillBesideK.ps) (x y : (res_t fillBesideK.r κs).Denot) (s t : AtExit (ended_of 3 fillBesideK.ps fillBesideK.r) κs)
    → fillBesideR.Post κs a x s → fillBesideR.Post κs a y t → (x ≡ y) × (s.1.1.1.1.1.1.0.now ≡ t.1.1.1.1.1.1.0.now)
fill_beside κs a x y s t p q = (counted_one x y _ p.0 q.0, p.1 ∙ sym q.1)

pub note_beside : (κs : Lfts 4) (a : Dens κs noteBesideK.ps) (x y : (res_t noteBesideK.r κs).Denot) (s t : AtExit (ended_of 4 noteBesideK.ps noteBesideK.r) κs)
    → noteBesideR.Post κs a x s → noteBesideR.Post κs a y t
    → (x ≡ y) × (s.1.1.1.1.1.1.0.now ≡ t.1.1.1.1.1.1.0.now) × (s.1.1.1.1.1.1.1.0.now ≡ t.1.1.1.1.1.1.1.0.now)
note_beside κs a x y s t p q = (counted_one x y _ p.0 q.0, p.1.0 ∙ sym q.1.0, p.1.1 ∙ sym q.1.1)

-- of numbers of any kind; how they are copied does not show
pub put : (T : RattleType) (l : Laws T) (c : IsCopy T) (g : Ghosts T.Denot) (d : Dict) (κs : Lfts 2) (a : Dens κs (putK.ps T l c))
    (x y : (res_t (putK.r T l c) κs).Denot) (s t : AtExit (ended_of 2 (putK.ps T l c) (putK.r T l c)) κs)
    → putR.Post T l c g d κs a x s → putR.Post T l c g d κs a y t → s.0.now ≡ t.0.now
put T l c g d κs a x y s t p q = p ∙ sym q
