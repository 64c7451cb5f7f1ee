-- What the contracts of the private functions cite. Nothing here is needed to read what the public functions promise.
use Rattle.std.specs.Prelude.{◌≡◌, List, [], ◌∷◌, ℕ, ◌+◌, ◌*◌, ◌^◌, ◌<◌, get_or}
use Rattle.std.specs.Int.Bits.{bit_xor}
use Rattle.crc32.specs.Crc.{shift_bits}

-- the table's rule: in a row at k stands k shifted by four bits for each row up to that one
abbrev pub Ruled : List ℕ → Type 0
Ruled t = (row k : ℕ) → row < 16 → k < 16 → get_or t (16 * row + k) 0 ≡ shift_bits (4 * (row + 1)) k

-- bytes as one number, the first in the lowest eight bits
unfoldable pub little : List ℕ → ℕ
little [] = 0
little (b ∷ s) = bit_xor b (little s * 2 ^ 8)
