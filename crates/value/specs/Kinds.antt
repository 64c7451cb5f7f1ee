-- The type set. Document 01, "Values"; the codes are hexadecimal, as there.
use Rattle.std.specs.Prelude.{Bool, false, ◌&&◌, ◌||◌, List, [], ◌∷◌, ◌++◌, ℕ, zero, suc, ◌-◌, eqb, leb, ltb}
use Rattle.cursor.specs.Answer.{pick}

-- a code stands in a list
unfoldable pub among : ℕ → List ℕ → Bool
among code [] = false
among code (x ∷ xs) = eqb code x || among code xs

-- from the first code to the last, both counted
abbrev pub spans : ℕ → ℕ → ℕ → Bool
spans first last code = leb first code && leb code last

-- codes one after the other, from the first to the last
abbrev from : ℕ → ℕ → List ℕ
from first zero = []
from first (suc n) = first ∷ from (suc first) n

abbrev pub up_to : ℕ → ℕ → List ℕ
up_to first last = from first (suc last - first)

-- the type set: "A type set with named constants holds the known codes: 00 to 15, 20, 21, 23, 81 to 8D, 8F to 95 (hex)"
abbrev pub codes : List ℕ
codes = up_to 0x00 0x15 ++ (0x20 ∷ 0x21 ∷ 0x23 ∷ []) ++ up_to 0x81 0x8D ++ up_to 0x8F 0x95

-- "the known codes: 00 to 15, 20, 21, 23, 81 to 8D, 8F to 95 (hex)"
unfoldable pub known_code : ℕ → Bool
unfolding among
known_code code =
    spans 0x00 0x15 code || (among code (0x20 ∷ 0x21 ∷ 0x23 ∷ []) || (spans 0x81 0x8D code || spans 0x8F 0x95 code))

-- "Widths: 03, 04: 1; 05, 06: 2; 07, 08, 0B, 0D, 14: 4; 09, 0A, 0C, 11, 15: 8; 0F, 12: 16"; 0 for a code without one
unfoldable pub width_of : ℕ → ℕ
unfolding among
width_of code =
    pick (among code (0x03 ∷ 0x04 ∷ [])) 1
    (pick (among code (0x05 ∷ 0x06 ∷ [])) 2
    (pick (among code (0x07 ∷ 0x08 ∷ 0x0B ∷ 0x0D ∷ 0x14 ∷ [])) 4
    (pick (among code (0x09 ∷ 0x0A ∷ 0x0C ∷ 0x11 ∷ 0x15 ∷ [])) 8
    (pick (among code (0x0F ∷ 0x12 ∷ [])) 16 0))))

-- the width of an array's elements: an array's code is its element's and 80
abbrev pub element_width_of : ℕ → ℕ
element_width_of code = pick (ltb code 0x80) 0 (width_of (code - 0x80))
