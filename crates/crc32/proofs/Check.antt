-- The check value of CRC-32 (IEEE): the CRC of the text '123456789' is CBF43926. antt computes it by the definition.
-- Assumes nothing.
use mathlib.Core.Path.{◌≡◌, refl}
use mathlib.Core.List.{[], ◌∷◌}
use Rattle.crc32.specs.Crc.{feedback, shift_bit, shift_bits, crc_over, crc_of}

pub check_value : crc_of (49 ∷ 50 ∷ 51 ∷ 52 ∷ 53 ∷ 54 ∷ 55 ∷ 56 ∷ 57 ∷ []) ≡ 0xCBF43926
unfolding feedback shift_bit shift_bits crc_over
check_value = refl
