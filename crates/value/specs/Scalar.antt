-- What a number's stored bytes decode to. Document 01, "Values": "A number decodes to signed (03, 05, 07, 09), unsigned (04, 06, 08, 0A,
-- 0D, 10, 11, 14, 15), or a real whose bits are the stored bytes (0B, 0C)".
use Rattle.std.specs.Prelude.{Option, Some, None}
use Rattle.std.specs.Prelude.{◌≡◌, false, List, [], ◌∷◌, ℕ, ◌-◌, ◌/◌, ◌^◌, eqb, leb, ℤ, pos, negsuc}
use Rattle.std.specs.Float.Ieee.{of_bits, to_bits, is_nan}
use Rattle.std.specs.Float.{binary32, binary64}
use Rattle.cursor.specs.Answer.{Maybe, just, nothing, pick}
use Rattle.cursor.specs.Reads.{number_of}
use Rattle.value.specs.Kinds.{among, width_of}
use Rattle.value.specs.declared.Scalar.{Scalar}
use Rattle.value.specs.declared.Scalar.TheVariants.{Signed, Unsigned, Single, Double}
use Rattle.value.specs.declared.Decoded.{Decoded}

-- a number with its bits, or nothing where the type is no number's
abbrev pub decoding_answer : Option Decoded → Maybe Decoded
decoding_answer (Some d) = just d
decoding_answer None = nothing

-- the number in the stored bytes: as many as the type has; a 10 has 4 or 8, and bytes that are not there count as zeros
unfoldable pub bits_of : ℕ → List ℕ → ℕ
bits_of code bytes = number_of bytes 0 (pick (eqb code 0x10) 8 (width_of code))

-- a signed number by its bits: up to the half of the last number of its width it is that number, above it is negative, the last being -1
abbrev pub signed_of : ℕ → ℕ → ℤ
signed_of last bits = pick (leb bits (last / 2)) (pos bits) (negsuc (last - bits))

-- the bits beside the value, since a NaN has none of its own
abbrev pub decoded : ℕ → Scalar → Maybe Decoded
decoded bits v = just (record { bits = bits; value = v })

unfoldable pub real_of : ℕ → ℕ → Maybe Decoded
real_of code bits =
    pick (eqb code 0x0B) (decoded bits (Single (of_bits binary32 bits)))
    (pick (eqb code 0x0C) (decoded bits (Double (of_bits binary64 bits))) nothing)

unfoldable pub unsigned_of : ℕ → ℕ → Maybe Decoded
unsigned_of code bits =
    pick (among code (0x04 ∷ 0x06 ∷ 0x08 ∷ 0x0A ∷ 0x0D ∷ 0x10 ∷ 0x11 ∷ 0x14 ∷ 0x15 ∷ [])) (decoded bits (Unsigned bits)) (real_of code bits)

unfoldable pub decoded_of : ℕ → List ℕ → Maybe Decoded
decoded_of code bytes =
    pick (among code (0x03 ∷ 0x05 ∷ 0x07 ∷ 0x09 ∷ []))
    (decoded (bits_of code bytes) (Signed (signed_of (256 ^ width_of code - 1) (bits_of code bytes))))
    (unsigned_of code (bits_of code bytes))

-- "whose bits are the stored bytes": a real that is no NaN has the bits that stand beside it
abbrev pub HasBits : ℕ → Scalar → Type 0
HasBits bits (Signed z) = Unit {0}
HasBits bits (Unsigned n) = n ≡ bits
HasBits bits (Single x) = is_nan x ≡ false → to_bits binary32 x ≡ bits
HasBits bits (Double x) = is_nan x ≡ false → to_bits binary64 x ≡ bits

abbrev pub KeepsBits : Maybe Decoded → Type 0
KeepsBits (just d) = HasBits d.bits d.value
KeepsBits nothing = Unit {0}
