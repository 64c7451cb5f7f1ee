-- Texts in UTF-16: counted units, units up to a zero unit, and whether units are well-formed. Document 01, "Token walk" and "Values";
-- document 02, P7; the Rust, byte_cursor.rs.
use Rattle.std.specs.Prelude.{Bool, false, not, ◌&&◌, List, [], ◌∷◌, ℕ, ◌+◌, ◌*◌, leb, ltb, eqb, length, take, drop}
use Rattle.cursor.specs.Answer.{Answer, given, refused, ◌then◌, pick}
use Rattle.cursor.specs.Refusals.{too_few}
use Rattle.cursor.specs.Reads.{bytes_of, number_at, take_at, part_moved}
use Rattle.cursor.specs.declared.View.{View}

-- the units of two bytes each, little-endian; an odd byte at the end is no unit
unfoldable pub units_of : List ℕ → List ℕ
units_of [] = []
units_of (a ∷ []) = []
units_of (a ∷ (b ∷ s)) = (a + 256 * b) ∷ units_of s

-- how many units stand before the first zero unit
unfoldable pub before_zero : List ℕ → ℕ
before_zero [] = 0
before_zero (u ∷ us) = pick (eqb u 0) 0 (before_zero us + 1)

-- the units before the first zero unit
abbrev pub shown_of : List ℕ → List ℕ
shown_of units = take (before_zero units) units

-- high surrogates are D800 to DBFF, low ones DC00 to DFFF
abbrev pub high_surrogate : ℕ → Bool
high_surrogate u = leb 0xD800 u && leb u 0xDBFF

abbrev pub low_surrogate : ℕ → Bool
low_surrogate u = leb 0xDC00 u && leb u 0xDFFF

-- units that stand right behind a high surrogate, or do not: behind it the first is a low one, and else it is none
unfoldable pub well_formed_after : Bool → List ℕ → Bool
well_formed_after high [] = not high
well_formed_after high (u ∷ us) = pick high (low_surrogate u) (not (low_surrogate u)) && well_formed_after (high_surrogate u) us

-- document 02, P7: "well-formed UTF-16 (each high surrogate followed by a low one, no low one alone)"
abbrev pub well_formed : List ℕ → Bool
well_formed us = well_formed_after false us

-- "the view stops before the first zero unit": the view of a text that has these units, from a position on; and "beside the view, whether
-- the view is well-formed UTF-16". Every view is this one,
abbrev pub view_of : ℕ → List ℕ → View
view_of at units = record { part = record { start = at; len = 2 * before_zero units }; sound = well_formed (shown_of units) }

-- or the same of a slice in which the text's own begins at `by`
abbrev pub view_moved : ℕ → View → View
view_moved by v = record { part = part_moved by v.part; sound = v.sound }

-- counted units: n units in one read, and their view
abbrev pub counted_at : List ℕ → ℕ → ℕ → Answer View
counted_at s at n = take_at s at (2 * n) then λ _ next. given (view_of at (units_of (bytes_of s at (2 * n)))) next

-- "u16 n, then n units", and a unit after them, whatever it is, where the text is terminated
abbrev pub prefixed_at : List ℕ → ℕ → Bool → Answer View
prefixed_at s at terminated =
    number_at s at 2 then λ n next.
    pick terminated
    (counted_at s next n then λ v end. number_at s end 2 then λ _ after. given v after)
    (counted_at s next n)

-- units up to a zero unit, which is read too; each is a read of its own, so a 3 stands at the unit that is cut
abbrev pub zero_ended_from : ℕ → List ℕ → Answer View
zero_ended_from at units =
    pick (ltb (before_zero units) (length units))
    (given (view_of at units) (at + 2 * before_zero units + 2))
    (refused too_few (at + 2 * length units))

abbrev pub zero_ended_at : List ℕ → ℕ → Answer View
zero_ended_at s at = zero_ended_from at (units_of (drop at s))
