-- Document 01, "Refusals and their places": the numbers, each with when it is given and its place.
use Rattle.std.specs.Prelude.{ℕ}

abbrev pub wrong_length : ℕ  -- chunk not 65,536 bytes, or stream longer than that; 0
wrong_length = 1

abbrev pub past_end : ℕ  -- position set past the stream's end; that position
past_end = 2

abbrev pub too_few : ℕ  -- too few bytes for a read; where the read starts (a record: its offset)
too_few = 3

abbrev pub wrong_magic : ℕ  -- chunk or record magic wrong; header's offset
wrong_magic = 4

abbrev pub small_record : ℕ  -- record size below 28; record's offset
small_record = 5

abbrev pub late_filetime : ℕ  -- FILETIME above 2,650,466,808,009,999,999; record's offset
late_filetime = 6

abbrev pub unknown_type : ℕ  -- type code unknown; after the code
unknown_type = 7

abbrev pub type_not_read : ℕ  -- type known, not read here; value's start
type_not_read = 8

abbrev pub unknown_token : ℕ  -- token byte unknown; after the byte
unknown_token = 9

abbrev pub uneven_array : ℕ  -- array size no multiple of its element; value's start
uneven_array = 10

abbrev pub name_not_ended : ℕ  -- inline name without final zero unit; name's start
name_not_ended = 11

abbrev pub name_hash : ℕ  -- inline name hash wrong; name's start
name_hash = 12

abbrev pub no_body_number : ℕ  -- no body begins with the tokens through this one; token number
no_body_number = 13

abbrev pub too_deep_number : ℕ  -- opens level 65; token number
too_deep_number = 14

abbrev pub unfinished : ℕ  -- body unfinished; count of tokens
unfinished = 15

abbrev pub no_room_number : ℕ  -- lent sheet or table too short; words needed
no_room_number = 16

abbrev pub size_copy : ℕ  -- size copy differs (strict read); record's offset
size_copy = 17

abbrev pub wrong_file : ℕ  -- document 02, P1: "fewer than 128 bytes or wrong file magic, at 0, before all others"
wrong_file = 18

abbrev pub wrong_sheet : ℕ  -- document 02, P3: "not the stream's sheet, at the first word wrong, missing or extra"; the word's number
wrong_sheet = 19

abbrev pub disagree : ℕ  -- document 02, P5: "attribute bit and attributes disagree"; token number
disagree = 20
