-- CRC-32 (IEEE): reflected polynomial EDB88320, start and end all ones, bit by bit. Written from the polynomial; no table stands here.
use Rattle.std.specs.Prelude.{List, [], ◌∷◌, ℕ, zero, suc, ◌/◌, ◌%◌}
use Rattle.std.specs.Int.Bits.{bit_xor}

-- 32 ones
abbrev pub all_ones : ℕ
all_ones = 0xFFFFFFFF

-- what a bit that leaves brings in: the reflected polynomial where it was 1, and nothing where it was 0
unfoldable pub feedback : ℕ → ℕ
feedback zero = 0
feedback (suc b) = 0xEDB88320

-- one bit: the number is halved, and where its lowest bit was 1 it is xored with the polynomial
unfoldable pub shift_bit : ℕ → ℕ
shift_bit c = bit_xor (feedback (c % 2)) (c / 2)

-- n bits
unfoldable pub shift_bits : ℕ → ℕ → ℕ
shift_bits zero c = c
shift_bits (suc n) c = shift_bits n (shift_bit c)

-- one byte: it is xored to the lowest eight bits, and eight bits are shifted
abbrev pub shift_byte : ℕ → ℕ → ℕ
shift_byte c b = shift_bits 8 (bit_xor c b)

-- the bytes of a list, in their order
unfoldable pub crc_over : ℕ → List ℕ → ℕ
crc_over c [] = c
crc_over c (b ∷ s) = crc_over (shift_byte c b) s

-- the CRC of a list, gone on from `first`, the CRC of an earlier part: the xor at the start undoes the one at that part's end
abbrev pub crc_on : ℕ → List ℕ → ℕ
crc_on first s = bit_xor (crc_over (bit_xor first all_ones) s) all_ones

-- the CRC of a list of bytes: all ones at the start and at the end
abbrev pub crc_of : List ℕ → ℕ
crc_of s = crc_on 0 s
