-- `crc32`: each public call allows one answer. Assumes nothing.
use mathlib.Core.Path.{sym, ◌∙◌}
use Rattle.crc32.proofs.crc32.Kinds as crcK
use Rattle.crc32.proofs.crc32.Reads as crcR
use Rattle.crc32.proofs.crc32_on.Kinds as onK
use Rattle.crc32.proofs.crc32_on.Reads as onR
use Rattle.promises.proofs.One.{Single}

pub crc32 : Single 1 crcK.ps crcK.r crcR.Post
crc32 κs a x y s t p q = p ∙ sym q

pub crc32_on : Single 1 onK.ps onK.r onR.Post
crc32_on κs a x y s t p q = p ∙ sym q
