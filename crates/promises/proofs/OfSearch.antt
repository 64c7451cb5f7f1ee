-- `search`: each public call allows one answer, since one is all that "the least" allows. Assumes nothing.
use mathlib.Core.Path.{sym, ◌∙◌}
use Rattle.search.proofs.Leasts.{one}
use Rattle.search.proofs.resync.Kinds as resyncK
use Rattle.search.proofs.resync.Reads as resyncR
use Rattle.search.proofs.carve.Kinds as carveK
use Rattle.search.proofs.carve.Reads as carveR
use Rattle.search.proofs.live_end.Kinds as endK
use Rattle.search.proofs.live_end.Reads as endR
use Rattle.promises.proofs.One.{Single}

pub resync : Single 1 resyncK.ps resyncK.r resyncR.Post
resync κs a x y s t p q = one _ _ x y p q

pub carve : Single 1 carveK.ps carveK.r carveR.Post
carve κs a x y s t p q = one _ _ x y p q

pub live_end : Single 0 endK.ps endK.r endR.Post
live_end κs a x y s t p q = p ∙ sym q
