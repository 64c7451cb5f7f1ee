-- How a value is written: the field type:size:start:next:content of docs/ANSWERS.md, mode T.
use Rattle.std.specs.Prelude.{List, [], ◌++◌, ℕ, ◌+◌, ◌%◌, ◌^◌, ℤ, pos, negsuc}
use Rattle.cursor.specs.Answer.{pick, Maybe, just, nothing}
use Rattle.cursor.specs.Reads.{part_of}
use Rattle.cursor.specs.declared.View.{View}
use Rattle.value.specs.Scalar.{decoded_of}
use Rattle.value.specs.declared.Content.{Content}
use Rattle.value.specs.declared.Content.TheVariants as C
use Rattle.value.specs.declared.Decoded.{Decoded}
use Rattle.value.specs.declared.Scalar.{Scalar}
use Rattle.value.specs.declared.Scalar.TheVariants.{Signed, Unsigned, Single, Double}
use Rattle.value.specs.declared.Value.{Value}
use Rattle.print.specs.Text.{ascii, decimal_of, hex_byte, hex_half, hex_word, hex_of}

-- 'the signed number in decimal'
abbrev pub signed_text : ℤ → List ℕ
signed_text (pos n) = decimal_of n
signed_text (negsuc n) = ascii "-" ++ decimal_of (n + 1)

-- '`i` and the signed number', '`u` and the unsigned number', '`f` and the stored bits in hex, most significant digit first, 8 or 16
-- digits': a single has 32 bits
abbrev pub scalar_text : ℕ → Scalar → List ℕ
scalar_text bits (Signed z) = ascii "i" ++ signed_text z
scalar_text bits (Unsigned n) = ascii "u" ++ decimal_of n
scalar_text bits (Single x) = ascii "f" ++ hex_half (bits % 2 ^ 32)
scalar_text bits (Double x) = ascii "f" ++ hex_word bits

-- a value that was read has a number's type where it holds a number
abbrev pub number_text : Maybe Decoded → List ℕ
number_text (just d) = scalar_text d.bits d.value
number_text nothing = []

-- '`t` and the view's bytes where it is sound, `x` and the view's bytes where not'
abbrev pub text_text : List ℕ → View → List ℕ
text_text s v = pick v.sound (ascii "t") (ascii "x") ++ hex_of (part_of s v.part)

-- '`n` for type 00'; texts for 01; numbers; '`b` and the bytes for all else'; a dash where there are no bytes
abbrev pub held_text : List ℕ → ℕ → Content → List ℕ
held_text s code C.Nothing = ascii "n"
held_text s code (C.Text v) = text_text s v
held_text s code (C.Number p) = number_text (decoded_of code (part_of s p))
held_text s code (C.Bytes p) = ascii "b" ++ hex_of (part_of s p)

abbrev pub content_text : List ℕ → Value → List ℕ
content_text s v = held_text s v.code v.content

-- 'type in two hex digits'
abbrev pub type_text : ℕ → List ℕ
type_text code = ascii " " ++ hex_byte code ++ ascii ":"

-- 'start:next:content', after the size
abbrev pub places_text : List ℕ → Value → ℕ → List ℕ
places_text s v next = ascii ":" ++ decimal_of v.start ++ ascii ":" ++ decimal_of next ++ ascii ":" ++ content_text s v

-- 'type:size:start:next:content'
abbrev pub sized_text : List ℕ → Value → ℕ → ℕ → List ℕ
sized_text s v size next = type_text v.code ++ decimal_of size ++ places_text s v next

-- 'type:-:start:next:content'
abbrev pub sizeless_text : List ℕ → Value → ℕ → List ℕ
sizeless_text s v next = type_text v.code ++ ascii "-" ++ places_text s v next

-- bytes as a field of their own, `-` where there are none
abbrev pub bytes_field : List ℕ → List ℕ
bytes_field bytes = ascii " " ++ hex_of bytes
