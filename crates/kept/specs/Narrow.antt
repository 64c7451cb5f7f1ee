-- What private functions cite.
use Rattle.std.specs.Prelude.{List, [], ◌∷◌, ℕ}
use Rattle.sheet.specs.Sheet.{without_bit}

-- the old words in a sheet of two words a token: each first word without the bit that is new
abbrev pub old_of : List ℕ → List ℕ
old_of [] = []
old_of (first ∷ []) = []
old_of (first ∷ second ∷ words) = without_bit first ∷ old_of words
