-- What a C caller takes from a token's words. Document 01, "Sheet and C calls"; document 02, P2.
use Rattle.std.specs.Prelude.{◌≡◌, List, [], ◌∷◌, ℕ, ◌/◌, ◌%◌, ◌^◌, ◌<◌}
use Rattle.tokens.specs.declared.Token.{Token}
use Rattle.sheet.specs.Sheet.{flag_bit, first_word_of, second_word_of}

-- "kind 4 bits", "place 17, length 17, number 16", "flag 1": as include/doortumble.h takes a token's first word apart
abbrev pub kind_in : ℕ → ℕ
kind_in word = word / 2 ^ 60

abbrev pub place_in : ℕ → ℕ
place_in word = word / 2 ^ 43 % 2 ^ 17

abbrev pub length_in : ℕ → ℕ
length_in word = word / 2 ^ 26 % 2 ^ 17

abbrev pub number_in : ℕ → ℕ
number_in word = word / 2 ^ 10 % 2 ^ 16

abbrev pub flag_in : ℕ → ℕ
flag_in word = word / 2 ^ 9 % 2

-- "that bit in the first of the nine spare places"
abbrev pub announced_in : ℕ → ℕ
announced_in word = word / 2 ^ 8 % 2

-- of the second word: "the name offset in 32 bits, then 32 zeros"
abbrev pub name_in : ℕ → ℕ
name_in word = word / 2 ^ 32

-- what a sheet says of a token; a flag is 1 or 0
pub record Fields : Type 0 where
  pub kind : ℕ
  pub place : ℕ
  pub len : ℕ
  pub number : ℕ
  pub flag : ℕ
  pub announced : ℕ
  pub name : ℕ

abbrev pub fields_in : ℕ → ℕ → Fields
fields_in first second =
    record {
      kind = kind_in first;
      place = place_in first;
      len = length_in first;
      number = number_in first;
      flag = flag_in first;
      announced = announced_in first;
      name = name_in second;
    }

abbrev pub fields_of : Token → Fields
fields_of t =
    record {
      kind = t.kind;
      place = t.place;
      len = t.len;
      number = t.number;
      flag = flag_bit t.flag;
      announced = flag_bit t.announced;
      name = t.name;
    }

-- a token's two words say its fields
abbrev pub Said : Token → Type 0
Said t = fields_in (first_word_of t) (second_word_of t) ≡ fields_of t

-- a whole sheet, two words a token
abbrev pub sheet_says : List ℕ → List Fields
sheet_says [] = []
sheet_says (first ∷ []) = []
sheet_says (first ∷ second ∷ rest) = fields_in first second ∷ sheet_says rest

-- every field of a token fits its bits
abbrev pub InBits : Token → Type 0
InBits t = (t.kind < 2 ^ 4) × (t.place < 2 ^ 17) × (t.len < 2 ^ 17) × (t.number < 2 ^ 16) × (t.name < 2 ^ 32)
