-- What each public call answers on a small input holds: computed on the definitions that the contracts cite. Assumes nothing.
use mathlib.Core.Path.{refl}
use Rattle.cursor.specs.Reads.{little, starts_with}
use Rattle.cursor.specs.Text.{units_of, before_zero, well_formed_after}
use Rattle.crc32.specs.Crc.{feedback, shift_bit, shift_bits, crc_over}
use Rattle.name.specs.Hash.{hash_from}
use Rattle.name.specs.Name.{units_at}
use Rattle.value.specs.Kinds.{among, known_code, width_of}
use Rattle.value.specs.Scalar.{bits_of, real_of, unsigned_of, decoded_of}
use Rattle.value.specs.Value.{sized_at, unsized_at}
use Rattle.record.specs.Chunk.{fields_at, offsets_at}
use Rattle.record.specs.Record.{payload_of}
use Rattle.log_file.specs.Header.{file_at}
use Rattle.tokens.specs.Instance.{table_at, values_at}
use Rattle.tokens.specs.Single.{ends_of}
use Rattle.tokens.specs.Table.{gist_at}
use Rattle.tokens.specs.Walk.{turn_at, step_from, walk_from, walk_of}
use Rattle.sheet.specs.Sheet.{read_from}
use Rattle.stream_answers.specs.Modes.{answer_text}
use Rattle.stream_answers.specs.Token.{values_from}
use Rattle.print.specs.Text.{put, each, decimal_in}
use Rattle.vectors.specs.Calls.{Calls}

pub calls : Calls
unfolding feedback shift_bit shift_bits crc_over file_at little starts_with units_of before_zero well_formed_after hash_from units_at among known_code width_of bits_of real_of unsigned_of decoded_of sized_at unsized_at fields_at offsets_at payload_of table_at values_at ends_of gist_at turn_at step_from walk_from walk_of put each decimal_in read_from values_from answer_text
calls =
    record {
      read = refl;
      number = refl;
      moved = refl;
      taken = refl;
      part_start = refl;
      counted = refl;
      prefixed = refl;
      zero_ended = refl;
      sid = refl;
      all_bytes = refl;
      unit = refl;
      a_pair = refl;
      high_at_end = refl;
      low_alone = refl;
      unsound_name = refl;
      unjudged_name = refl;
      no_room = refl;
      laid_words = refl;
      hash = refl;
      known = refl;
      width = refl;
      element = refl;
      unknown = refl;
      tokens = refl;
      last = refl;
      before_header = refl;
      values = refl;
      next = refl;
      goes_on = refl;
      fields = refl;
      strings = refl;
      check = refl;
      events_right_lem = refl;
      no_events = refl;
      events_below = refl;
      events_past = refl;
      chunk_header = refl;
      file_header_lem = refl;
      payload = refl;
      start = refl;
      said = refl;
      text = refl;
      value_line = refl;
      plain_line = refl;
      announced_line = refl;
      unsound_line = refl;
      sound_line = refl;
      owners_line = refl;
      sheet_lines = refl;
      body_lines = refl;
      told = (refl, refl);
      looked_up_lem = refl;
      name_room = refl;
      name_before_room = refl;
      rows = refl;
      rows_room = refl;
      rows_lines = refl;
      name_lines = refl;
    }
