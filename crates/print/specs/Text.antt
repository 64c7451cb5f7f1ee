-- Text in a lent buffer, and how numbers and bytes are written.
use Rattle.std.specs.Prelude.{◌≡◌, List, [], ◌∷◌, ◌++◌, ℕ, zero, suc, ◌+◌, ◌/◌, ◌%◌, ltb, length, set}
use Prim.Native.Char.{code}
use Prim.Native.String.{String, len, char_at}
use Rattle.cursor.specs.Answer.{pick}
use Rattle.cursor.specs.declared.Refusal.{Refusal}

-- the bytes of a text in ASCII
abbrev pub codes_from : ℕ → ℕ → String → List ℕ
codes_from zero i t = []
codes_from (suc n) i t = code (char_at t i) ∷ codes_from n (suc i) t

abbrev pub ascii : String → List ℕ
ascii t = codes_from (len t) 0 t

-- a lent buffer, and how full it is
pub record Page : Type 0 where
  pub bytes : List ℕ
  pub full : ℕ

-- a byte behind what is there; one that has no room is left out
abbrev pub put_byte : ℕ → Page → Page
put_byte b p = pick (ltb p.full (length p.bytes)) (record { bytes = set p.bytes p.full b; full = p.full + 1 }) p

-- a text, byte by byte
unfoldable pub put : List ℕ → Page → Page
put [] p = p
put (b ∷ t) p = put t (put_byte b p)

abbrev pub page : List ℕ → ℕ → Page
page bytes full = record { bytes = bytes; full = full }

-- what each function here says: the text is put into the lent buffer, which was full up to `at`, and `end` says how full it is then
pub record Puts (t lent : List ℕ) (at : ℕ) (left : List ℕ) (end : ℕ) : Type 0 where
  pub is : page left end ≡ put t (page lent at)

-- the same where a definition says which texts it allows
pub record PutsSome (Allowed : List ℕ → Type 0) (lent : List ℕ) (at : ℕ) (left : List ℕ) (end : ℕ) : Type 0 where
  pub text : List ℕ
  pub allowed : Allowed text
  pub puts : Puts text lent at left end

-- what each member of a list is written as, one after the other
unfoldable pub each : {A : Type 0} → (A → List ℕ) → List A → List ℕ
each f [] = []
each f (a ∷ xs) = f a ++ each f xs

-- a digit below 16: `0` to `9`, then `a` to `f`
abbrev pub digit : ℕ → ℕ
digit n = pick (ltb n 10) (48 + n) (87 + n)

-- a number in at most so many decimal digits, the most significant first and none that is a zero in front
unfoldable pub decimal_in : ℕ → ℕ → List ℕ
decimal_in zero n = []
decimal_in (suc k) n = pick (ltb n 10) (digit n ∷ []) (decimal_in k (n / 10) ++ (digit (n % 10) ∷ []))

-- a number of 64 bits has at most twenty
abbrev pub decimal_of : ℕ → List ℕ
decimal_of n = decimal_in 20 n

-- a space and a number
abbrev pub spaced_number : ℕ → List ℕ
spaced_number n = ascii " " ++ decimal_of n

-- a byte in two hexadecimal digits; a number of four bytes, and one of eight, the most significant first
abbrev pub hex_byte : ℕ → List ℕ
hex_byte b = digit (b / 16) ∷ digit (b % 16) ∷ []

abbrev pub hex_half : ℕ → List ℕ
hex_half n = hex_byte (n / 0x1000000) ++ hex_byte (n / 0x10000 % 0x100) ++ hex_byte (n / 0x100 % 0x100) ++ hex_byte (n % 0x100)

abbrev pub hex_word : ℕ → List ℕ
hex_word n = hex_half (n / 0x100000000) ++ hex_half (n % 0x100000000)

-- bytes in hexadecimal, '`-` where there are none'
abbrev pub hex_of : List ℕ → List ℕ
hex_of [] = ascii "-"
hex_of (b ∷ s) = each hex_byte (b ∷ s)

-- a space and a number in hexadecimal
abbrev pub spaced_half : ℕ → List ℕ
spaced_half n = ascii " " ++ hex_half n

abbrev pub spaced_word : ℕ → List ℕ
spaced_word n = ascii " " ++ hex_word n

-- a line: a word and numbers
abbrev pub line_of : List ℕ → List ℕ → List ℕ
line_of word ns = word ++ each spaced_number ns ++ ascii "\n"

abbrev pub refused_of : Refusal → List ℕ
refused_of r = line_of (ascii "refused") (r.number ∷ r.place ∷ [])
