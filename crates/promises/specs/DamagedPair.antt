-- Two chunks whose second record is damaged, each in its own way, and what their walks answer. Document 02, P14; computed in
-- proofs/DamagedPair.antt.
use Rattle.std.specs.Prelude.{List, [], ◌∷◌, ◌++◌, ℕ, replicate}
use Rattle.record.specs.Chunk.{chunk_magic}
use Rattle.record.specs.declared.Fields.{Fields}
use Rattle.record.specs.declared.Record.{Record}
use Rattle.chunk.specs.Walk.{Reply, live, carved, refused_with}

-- a header with the IDs 1 to 3, the last record at 596 and free space from 624, and the bytes after it
abbrev pub a_header : List ℕ → List ℕ
a_header rest =
    chunk_magic ++ replicate 16 0 ++ (1 ∷ replicate 7 0) ++ (3 ∷ replicate 11 0) ++ (0x54 ∷ 2 ∷ 0 ∷ 0 ∷ 0x70 ∷ 2 ∷ 0 ∷ 0 ∷ []) ++ replicate 460 0 ++ rest

abbrev pub its_fields : Fields
its_fields =
    record {
      numbers = record { first = 0; last = 0 };
      ids = record { first = 1; last = 3 };
      size = 0;
      last = 596;
      free = 624;
      events = 0;
      flags = 0;
      checksum = 0;
    }

-- a record: the first byte of its magic, its size, its ID, every byte of its FILETIME, its payload, and the bytes after it
abbrev pub a_record : ℕ → ℕ → ℕ → ℕ → List ℕ → List ℕ → List ℕ
a_record star size id time payload rest =
    star ∷ 0x2A ∷ 0 ∷ 0 ∷ size ∷ 0 ∷ 0 ∷ 0 ∷ id ∷ 0 ∷ 0 ∷ 0 ∷ 0 ∷ 0 ∷ 0 ∷ 0 ∷ time ∷ time ∷ time ∷ time ∷ time ∷ time ∷ time ∷ time
    ∷ payload ++ (size ∷ 0 ∷ 0 ∷ 0 ∷ rest)

-- three records, at 512, 540 and 596; the payload of the second holds a whole record of ID 99. What is damaged: the magic of the second
-- (its first byte), the magic of the one in it, the FILETIME of the second (each byte)
abbrev pub three_records : ℕ → ℕ → ℕ → List ℕ → List ℕ
three_records outer inner time rest =
    a_header (a_record 0x2A 28 1 0 [] (a_record outer 56 2 time (a_record inner 28 99 0 [] []) (a_record 0x2A 28 3 0 [] rest)))

-- the second record has no magic
abbrev pub without_magic : List ℕ
without_magic = three_records 0 0x2A 0 (replicate 64912 0)

-- its FILETIME is all ones, and the record in it has no magic
abbrev pub with_late_time : List ℕ
with_late_time = three_records 0x2A 0 0xFF (replicate 64912 0)

abbrev pub first_record : Record
first_record = record { offset = 512; size = 28; id = 1; time = 0 }

abbrev pub inner_record : Record
inner_record = record { offset = 564; size = 28; id = 99; time = 0 }

abbrev pub last_record : Record
last_record = record { offset = 596; size = 28; id = 3; time = 0 }

-- what their walks answer after the refusal at 540, and in all
abbrev pub after_magic : List Reply
after_magic = carved inner_record ∷ live last_record ∷ []

abbrev pub after_late_time : List Reply
after_late_time = live last_record ∷ []

abbrev pub magic_answers : List Reply
magic_answers = live first_record ∷ refused_with 4 540 ∷ after_magic

abbrev pub late_time_answers : List Reply
late_time_answers = live first_record ∷ refused_with 6 540 ∷ after_late_time
