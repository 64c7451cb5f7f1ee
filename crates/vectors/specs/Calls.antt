-- What each public call answers on a small input, by the definition that its contract cites. Each answer here is one that is easily got
-- wrong, beside the wrong code and definitions that must-fail/ and wrong/ of the crates have.
use Rattle.std.specs.Prelude.{Some}
use Rattle.std.specs.Prelude.{◌≡◌, true, false, List, [], ◌∷◌, ◌++◌, ℕ, get_or, replicate}
use Rattle.cursor.specs.Answer.{given, refused, gives, refuses, just, nothing}
use Rattle.cursor.specs.Reads.{number_at, number_of, set_to, take_at, part_of, sid_at, starts_with}
use Rattle.cursor.specs.Lent.{lent_answer, lent_left}
use Rattle.cursor.specs.Text.{units_of, well_formed, counted_at, prefixed_at, zero_ended_at}
use Rattle.cursor.specs.declared.Part.{Part}
use Rattle.cursor.specs.declared.View.{View}
use Rattle.name.specs.Hash.{hash_of}
use Rattle.name.specs.Lookup.{looked_up, found_answer, found_words}
use Rattle.name.specs.Name.{name_of, name_at}
use Rattle.name.specs.declared.Soundness.TheVariants.{Unsound, NotJudged}
use Rattle.value.specs.Kinds.{known_code, width_of, element_width_of}
use Rattle.value.specs.Value.{unsized_at}
use Rattle.record.specs.Chunk.{fields_at, strings_of, checksum_at, events_right, header_words}
use Rattle.record.specs.Record.{payload_of}
use Rattle.record.specs.declared.Fields.{Fields}
use Rattle.chunk.specs.Walk.{start_of}
use Rattle.log_file.specs.Header.{file_words}
use Rattle.tokens.specs.Instance.{values_of, next_of}
use Rattle.tokens.specs.Single.{ends_of}
use Rattle.tokens.specs.Walk.{walk_of, counted_of}
use Rattle.tokens.specs.declared.Flags.{Flags}
use Rattle.doortumble.specs.Calls.{packed_of}
use Rattle.event.specs.Event.{event_answer}
use Rattle.event_answers.specs.Called.{name_text}
use Rattle.checksum_call.specs.Said.{said_of}
use Rattle.print.specs.Text.{ascii, page, put}
use Rattle.body.specs.Verdict.{both}
use Rattle.sheet_call.specs.Told.{told_of}
use Rattle.stream_answers.specs.Modes.{owners_text, answer_text, words_text, sheet_text}
use Rattle.stream_answers.specs.Body.{both_text}
use Rattle.stream_answers.specs.Walk.{walk_text}
use Rattle.promises.specs.Samples.{empty_element, announced_element, an_instance, whole, walk_of_stream}

abbrev part : ℕ → ℕ → Part
part start len = record { start = start; len = len }

-- a sound one
abbrev view : ℕ → ℕ → View
view start len = record { part = part start len; sound = true }

abbrev three : List ℕ
three = 1 ∷ 2 ∷ 3 ∷ []

abbrev plainly : Flags
plainly = record { dependencies = false; inline = false }

-- a chunk's header with that free space offset and events checksum, and zeros
abbrev free_at : ℕ → ℕ → Fields
free_at free events =
    record {
      numbers = record { first = 0; last = 0 };
      ids = record { first = 0; last = 0 };
      size = 0;
      last = 0;
      free = free;
      events = events;
      flags = 0;
      checksum = 0;
    }

-- a name of one unit, which is not sound, with its hash
abbrev a_name : List ℕ
a_name = 0 ∷ 0 ∷ 0 ∷ 0 ∷ 0x00 ∷ 0xD8 ∷ 1 ∷ 0 ∷ 0x00 ∷ 0xD8 ∷ []

-- 512 bytes and then these three
abbrev after_header : List ℕ
after_header = replicate 512 0 ++ three

-- a file's header of 128 bytes with block size 4,096, the flags 3 and the right checksum
abbrev file_header : List ℕ
file_header =
    0x45 ∷ 0x6C ∷ 0x66 ∷ 0x46 ∷ 0x69 ∷ 0x6C ∷ 0x65 ∷ 0 ∷ replicate 33 0 ++ (0x10 ∷ replicate 78 0)
    ++ (3 ∷ 0 ∷ 0 ∷ 0 ∷ 0x8B ∷ 0x08 ∷ 0x0E ∷ 0xC4 ∷ [])

pub record Calls : Type 0 where
  -- `u8` to `u64`: three bytes are no number of four; 3, where the read starts
  pub read : number_at three 0 4 ≡ refused 3 0
  -- `u8_at` to `u64_at`: bytes past the end count as zeros
  pub number : number_of three 1 4 ≡ 0x0302
  -- `with_pos`, `set_pos`: the end itself is allowed
  pub moved : set_to three 3 ≡ given tt 3
  -- `take_bytes`: 3, where the read starts
  pub taken : take_at three 1 3 ≡ refused 3 1
  -- `Part::of`: the bytes from where it starts
  pub part_start : part_of three (part 1 2) ≡ 2 ∷ 3 ∷ []
  -- `utf16_by_char_count`: a view without its zero unit, the position after all units
  pub counted : counted_at (0x41 ∷ 0 ∷ 0 ∷ 0 ∷ []) 0 2 ≡ given (view 0 2) 4
  -- `len_prefixed_utf16_string`: the unit after a text that is terminated must be there
  pub prefixed : prefixed_at (1 ∷ 0 ∷ 0x41 ∷ 0 ∷ []) 0 true ≡ refused 3 4
  -- `null_terminated_utf16_string`: each unit is a read of its own; 3 at the one that is cut
  pub zero_ended : zero_ended_at (0x41 ∷ 0 ∷ 0x42 ∷ []) 0 ≡ refused 3 2
  -- `read_sid`: eight bytes, and four for each group
  pub sid : sid_at (1 ∷ 1 ∷ replicate 10 0) 0 ≡ given (part 0 12) 12
  -- `begins`: every byte counts
  pub all_bytes : starts_with (0x2A ∷ 0x2B ∷ []) (0x2A ∷ 0x2A ∷ []) ≡ false
  -- `unit_at`: an odd byte at the end is no unit
  pub unit : get_or (units_of three) 1 0 ≡ 0
  -- `well_formed`: a pair, a high surrogate at the end, a low one alone
  pub a_pair : well_formed (0xD800 ∷ 0xDFFF ∷ []) ≡ true
  pub high_at_end : well_formed (0x41 ∷ 0xDBFF ∷ []) ≡ false
  pub low_alone : well_formed (0xDC00 ∷ []) ≡ false
  -- `read_name_ref`: an inline name is judged on all its units, and not on those before a zero; an offset name is not judged
  pub unsound_name : name_at (0x00 ∷ 0xD8 ∷ 2 ∷ 0 ∷ 0 ∷ 0 ∷ 0x00 ∷ 0xD8 ∷ 0 ∷ 0 ∷ []) 0 true ≡ given (name_of 0 4 2 Unsound) 10
  pub unjudged_name : name_at (0 ∷ 2 ∷ 0 ∷ 0 ∷ []) 0 false ≡ given (name_of 512 0 0 NotJudged) 4
  -- `lay`: the words needed; words past those that are laid stay
  pub no_room : lent_answer (gives three) (9 ∷ 9 ∷ []) ≡ refuses 16 3
  pub laid_words : lent_left (gives three) (9 ∷ 9 ∷ 9 ∷ 9 ∷ []) ≡ 1 ∷ 2 ∷ 3 ∷ 9 ∷ []
  -- `name_hash`: the low 16 bits
  pub hash : hash_of (0xFFFF ∷ 0xFFFF ∷ []) ≡ 0xFFC0
  -- `Kind::known`, `width`, `element_width`
  pub known : known_code 0x16 ≡ false
  pub width : width_of 0x12 ≡ 16
  pub element : element_width_of 0x8F ≡ 16
  -- `read_unsized`: an unknown code is refused after the code
  pub unknown : unsized_at (0x16 ∷ []) 0 ≡ refused 7 1
  -- `sheet::count`: the end byte is no token
  pub tokens : counted_of (walk_of_stream (whole empty_element)) ≡ gives 2
  -- `tokens::step`: the last token may run over; the header after a token is no part of it
  pub last : counted_of (walk_of empty_element 0 1 plainly) ≡ gives 1
  pub before_header : walk_text (0x02 ∷ 0x0F ∷ 1 ∷ 1 ∷ 0 ∷ 0x04 ∷ []) 0 6 plainly ≡ ascii "0 1 3\n5 1 5\nok 2\n"
  -- `Values::of`: the values begin where the instance says, not at their descriptors
  pub values : (values_of (record { id = 0; offset = 0; guid = part 0 0; table = 14; count = 1; values = 18 })).at ≡ 18
  -- `Values::next`: where none is left, done, whatever the stream holds
  pub next : next_of [] (record { table = 14; left = 0; at = 18 }) ≡ gives nothing
  -- `ends_stream`: a byte that is not 0 follows
  pub goes_on : ends_of three 1 ≡ just false
  -- `read_fields`, `read_header`: the length first
  pub fields : fields_at three ≡ refused 1 0
  pub strings : strings_of [] ≡ replicate 64 0
  -- `check_header`: of no chunk neither yes nor no
  pub check : checksum_at three ≡ refused 1 0
  -- `check_events`: the bytes from 512 up to the free space offset; with none of them 0 is right, and an offset below 512 or past the
  -- chunk's end never
  pub events_right_lem : events_right after_header (free_at 515 0x55BC801D) ≡ true
  pub no_events : events_right after_header (free_at 512 0) ≡ true
  pub events_below : events_right after_header (free_at 511 0) ≡ false
  pub events_past : events_right after_header (free_at 516 0x55BC801D) ≡ false
  -- `record::lay_header`, `doortumble_chunk_header`: the chunk's own refusal comes before 16
  pub chunk_header : packed_of (lent_answer (header_words three) []) ≡ 0x8100000000000000
  -- `lay_file_header`, `doortumble_file_header`: the flags and the stored checksum, and 1 where it is right; the words past them stay
  pub file_header_lem : lent_left (file_words file_header) (replicate 12 9)
      ≡ 0 ∷ 0 ∷ 0 ∷ 0 ∷ 0 ∷ 0 ∷ 4096 ∷ 0 ∷ 3 ∷ 0xC40E088B ∷ 1 ∷ 9 ∷ []
  -- `Record::payload`: the size minus 28 bytes, from 24 on
  pub payload : payload_of (replicate 24 0 ++ (7 ∷ 8 ∷ 0 ∷ 0 ∷ 0 ∷ 0 ∷ [])) (record { offset = 0; size = 30; id = 0; time = 0 }) ≡ 7 ∷ 8 ∷ []
  -- `Walk::start`
  pub start : (start_of true).place ≡ Some 512
  -- `doortumble_bench_checksum`
  pub said : said_of (refused 1 0) ≡ 2
  -- `byte`, `text`: behind what is there, as far as there is room
  pub text : put (ascii "abc") (page (ascii "x..") 1) ≡ page (ascii "xab") 3
  -- `stream_answers::walk`
  pub value_line : walk_text (an_instance 2 0x08 (0x2A ∷ 0 ∷ 0 ∷ 0 ∷ [])) 0 22 plainly ≡ ascii "0 22 1 7 512 - 1 08:2:18:22:u42\nok 1\n"
  -- an open token's line: its name's offset, no dependency, attributes announced or not
  pub plain_line : walk_text empty_element 0 11 plainly ≡ ascii "0 9 2 512 - 0 -\n9 1 4\nok 2\n"
  pub announced_line : walk_text announced_element 0 15 plainly ≡ ascii "0 13 2 512 - 1 -\n13 1 4\nok 2\n"
  -- a text's line ends with whether it is sound, and so does an inline name's
  pub unsound_line : walk_text (0x07 ∷ 1 ∷ 0 ∷ 0x00 ∷ 0xD8 ∷ []) 0 5 plainly ≡ ascii "0 5 11 00d8 0\nok 1\n"
  pub sound_line : walk_text (0x06 ∷ 0 ∷ 0 ∷ 0 ∷ 0 ∷ 0 ∷ 0 ∷ []) 0 7 (record { dependencies = false; inline = true }) ≡ ascii "0 7 7 1 1\nok 1\n"
  -- `stream_answers::owners`: as many words as tokens
  pub owners_line : owners_text (gives 2) (0 ∷ 1 ∷ 9 ∷ []) ≡ ascii "owners 0 1\n"
  -- `stream_answers::sheet_alone`: the refusal, and all words that were lent; `body_call`: the answer's word, and all words of both
  pub sheet_lines : sheet_text (walk_of_stream (whole empty_element)) (9 ∷ []) ≡ ascii "refused 16 4\nwords 0000000000000009\n"
  pub body_lines : answer_text (packed_of (gives 1)) ++ both_text (both (9 ∷ 8 ∷ []) (0 ∷ 9 ∷ []))
      ≡ ascii "answer 0000000000000001\nsheet 0000000000000009 0000000000000008\ntable 00000000 00000009\n"
  -- `doortumble_bench_sheet`: a count, and all ones for a refusal
  pub told : (told_of (gives 2) ≡ 2) × (told_of (refuses 16 4) ≡ 0xFFFFFFFFFFFFFFFF)
  -- `name::look_up`, `doortumble_name`: where the units start, not sound, and the hash is theirs; 16 comes after the name's own refusals
  pub looked_up_lem : found_words (looked_up a_name 0 false) ≡ gives (0x800000101 ∷ [])
  pub name_room : packed_of (found_answer (looked_up a_name 0 false) []) ≡ 0x9000000000000001
  pub name_before_room : found_answer (looked_up a_name 2 false) [] ≡ refuses 3 10
  -- `event::fill`, `doortumble_event`: rows are counted, and words are needed
  pub rows : event_answer (gives (replicate 12 0)) (replicate 12 9) ≡ gives 2
  pub rows_room : event_answer (gives (replicate 12 0)) (replicate 11 9) ≡ refuses 16 12
  -- `event_rows`, `looked_up`: the answer's word, and all words that were lent
  pub rows_lines : answer_text (packed_of (gives 1)) ++ words_text (9 ∷ []) ≡ ascii "answer 0000000000000001\nwords 0000000000000009\n"
  pub name_lines : name_text a_name 0 false (9 ∷ 8 ∷ []) ≡ ascii "answer 0000000000000001\nwords 0000000800000101 0000000000000008\n"
