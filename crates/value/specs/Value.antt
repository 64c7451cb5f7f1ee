-- Values with and without a size. Document 01, "Values" and "Refusals and their places".
-- "Each value is read from the middle of the stream": from the part t that starts at the value and goes to the stream's end. Every read
-- is a read of the cursor at 0 of t, and what was read is then moved to where t starts in the stream.
use Rattle.std.specs.Prelude.{Ok, Err, Result}
use Rattle.cursor.specs.declared.Cursor.{Cursor}
use Rattle.cursor.specs.declared.Refusal.{Refusal}
use Rattle.std.specs.Prelude.{Bool, false, ◌||◌, List, [], ◌∷◌, ℕ, ◌+◌, ◌/◌, ◌^◌, eqb, leb, ltb, length, drop}
use Rattle.cursor.specs.Answer.{Answer, given, refused, ◌then◌, pick}
use Rattle.cursor.specs.Answers.{refusal, read_answer}
use Rattle.cursor.specs.Reads.{number_at, take_at, part_moved, sid_at, array_at}
use Rattle.cursor.specs.Text.{view_moved, counted_at, prefixed_at}
use Rattle.cursor.specs.Refusals.{past_end, unknown_type, type_not_read}
use Rattle.cursor.specs.declared.Part.{Part}
use Rattle.cursor.specs.declared.View.{View}
use Rattle.value.specs.Kinds.{among, known_code, width_of, element_width_of}
use Rattle.value.specs.declared.Content.{Content}
use Rattle.value.specs.declared.Content.TheVariants.{Nothing, Text, Number, Bytes}
use Rattle.value.specs.declared.Value.{Value}

abbrev pub value_of : ℕ → ℕ → Content → Value
value_of code start x = record { code = code; start = start; content = x }

-- what was read, as a value's content
abbrev pub as_bytes : Part → ℕ → Answer Content
as_bytes p next = given (Bytes p) next

abbrev pub as_number : Part → ℕ → Answer Content
as_number p next = given (Number p) next

abbrev pub as_text : View → ℕ → Answer Content
as_text v next = given (Text v) next

-- what was read of t, in the stream in which t starts at `start`; a refusal's place too
abbrev pub placed : ℕ → Content → Content
placed start Nothing = Nothing
placed start (Text v) = Text (view_moved start v)
placed start (Number p) = Number (part_moved start p)
placed start (Bytes p) = Bytes (part_moved start p)

abbrev pub moved : ℕ → Answer Content → Answer Content
moved start (given x next) = given (placed start x) (start + next)
moved start (refused number place) = refused number (start + place)

-- "00, 13 and the widths": these tell how many bytes they read, whatever a size says
abbrev pub tells_length : ℕ → Bool
tells_length code = ltb 0 (width_of code) || (eqb code 0x00 || eqb code 0x13)

-- a width is read whole, and what has 16 bytes (0F, 12) is no number; "13 reads 8 + 4 × its byte 1"; "00 reads nothing"
abbrev pub told_in : List ℕ → ℕ → Answer Content
told_in t code =
    pick (ltb 0 (width_of code))
    (pick (eqb (width_of code) 16) (take_at t 0 (width_of code) then as_bytes) (take_at t 0 (width_of code) then as_number))
    (pick (eqb code 0x13) (sid_at t 0 then as_bytes) (given Nothing 0))

-- "02, 0E, 21, 81, 82 read s"
abbrev pub takes_size : ℕ → Bool
takes_size code = among code (0x02 ∷ 0x0E ∷ 0x21 ∷ 0x81 ∷ 0x82 ∷ [])

-- "10 reads 4 or 8 if s is that, else refusal 8"
abbrev pub size_t_in : List ℕ → ℕ → Answer Content
size_t_in t size = pick (eqb size 4 || eqb size 8) (take_at t 0 size then as_number) (refused type_not_read 0)

-- "type known, not read here" (8) or "type code unknown" (7)
abbrev pub not_read : ℕ → ℕ
not_read code = pick (known_code code) type_not_read unknown_type

-- "With a size s": what tells its length; "01 reads the even part of s, view before the first zero unit"; "02, 0E, 21, 81, 82 read s";
-- "10 reads 4 or 8 if s is that, else refusal 8"; "other arrays need the element width to divide s (checked before the bytes) and
-- read s"; "20, 23, 90, 93: refusal 8"
abbrev pub sized_in : List ℕ → ℕ → ℕ → Answer Content
sized_in t code size =
    pick (tells_length code) (told_in t code)
    (pick (eqb code 0x01) (counted_at t 0 (size / 2) then as_text)
    (pick (takes_size code) (take_at t 0 size then as_bytes)
    (pick (eqb code 0x10) (size_t_in t size)
    (pick (ltb 0 (element_width_of code)) (array_at t 0 (element_width_of code) size then as_bytes)
    (refused (not_read code) 0)))))

-- a value with a size. "Short read: on to start plus s. Read past s: the position stays"; a position "past the stream's end" is 2 at
-- "that position". No stream holds a part whose start, length and size together are no number of 64 bits: 2 at its start, so that every
-- call has an answer
unfoldable pub sized_at : List ℕ → ℕ → ℕ → ℕ → Answer Value
sized_at t start code size =
    pick (ltb (start + length t + size) (2 ^ 64))
    (moved start (sized_in t code size) then λ x next.
    pick (leb (start + size) next) (given (value_of code start x) next)
    (pick (leb (start + size) (start + length t)) (given (value_of code start x) (start + size))
    (refused past_end (start + size))))
    (refused past_end start)

-- "Without a size (value token): type byte, then as above for 00, 13 and the widths; 01 takes u16 n and n units; the rest: 8, after the
-- type byte"
unfoldable pub unsized_at : List ℕ → ℕ → Answer Value
unsized_at s at =
    number_at s at 1 then λ code start.
    pick (tells_length code) (moved start (told_in (drop start s) code))
    (pick (eqb code 0x01) (prefixed_at s start false then as_text)
    (refused (not_read code) start)) then λ x next.
    given (value_of code start x) next
