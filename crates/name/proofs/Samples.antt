-- Document 01's sample: "inline `41 00` `42 00`: hash 1041", and the name that is stored with it. Assumes nothing.
use Rattle.std.proofs.Common.{◌≡◌, ℕ, true, List, [], ◌∷◌, refl}
use Rattle.cursor.specs.Answer.{given}
use Rattle.cursor.specs.Reads.{little}
use Rattle.name.specs.Hash.{hash_from, hash_of}
use Rattle.cursor.specs.Text.{well_formed_after}
use Rattle.name.specs.Name.{name_of, units_at, name_at}
use Rattle.name.specs.declared.Soundness.TheVariants.{Sound}

pub sample_hash : hash_of (0x41 ∷ 0x42 ∷ []) ≡ 0x1041
unfolding hash_from
sample_hash = refl

-- `4110 0200 4100 4200 0000`: the name at 0 has its two units from 4 on, and the walk reads on at 10
pub sample_name : name_at (0x41 ∷ 0x10 ∷ 0x02 ∷ 0x00 ∷ 0x41 ∷ 0x00 ∷ 0x42 ∷ 0x00 ∷ 0x00 ∷ 0x00 ∷ []) 0 true ≡ given (name_of 0 4 2 Sound) 10
unfolding units_at little hash_from well_formed_after
sample_name = refl
