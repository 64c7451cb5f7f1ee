-- `name`: each public call allows one answer, and `look_up` one content of the lent word. Assumes nothing.
use mathlib.Core.Path.{◌≡◌, sym, ◌∙◌}
use contract.Lifetimes.{Lfts}
use borrow.Fn.Kinds.{Dens, res_t, ended_of}
use denote.Triple.Clauses.{AtExit}
use Rattle.name.proofs.read_name_ref.Kinds as refK
use Rattle.name.proofs.read_name_ref.Reads as refR
use Rattle.name.proofs.name_hash.Kinds as hashK
use Rattle.name.proofs.name_hash.Reads as hashR
use Rattle.name.proofs.look_up.Kinds as lookK
use Rattle.name.proofs.look_up.Reads as lookR
use Rattle.promises.proofs.One.{Single, counted_one, read_one}

pub read_name_ref : Single 1 refK.ps refK.r refR.Post
read_name_ref κs a x y s t p q = read_one x y _ p q

pub name_hash : Single 1 hashK.ps hashK.r hashR.Post
name_hash κs a x y s t p q = p ∙ sym q

pub look_up : (κs : Lfts 2) (a : Dens κs lookK.ps) (x y : (res_t lookK.r κs).Denot) (s t : AtExit (ended_of 2 lookK.ps lookK.r) κs)
    → lookR.Post κs a x s → lookR.Post κs a y t → (x ≡ y) × (s.1.1.1.0.now ≡ t.1.1.1.0.now)
look_up κs a x y s t p q = (counted_one x y _ p.0 q.0, p.1 ∙ sym q.1)
