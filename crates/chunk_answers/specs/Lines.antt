-- What the private functions cite: lines from rows. Nothing here is needed to read what the public calls promise.
use Rattle.std.specs.Prelude.{◌≡◌, ℕ, List, [], ◌∷◌, ◌++◌, ◌==◌, slice_index}
use Rattle.cursor.specs.Answer.{pick}
use Rattle.record.specs.declared.Record.{Record}
use Rattle.chunk.specs.Walk.{Reply}
use Rattle.chunk.specs.Listing.{rows_of}
use Rattle.print.specs.Text.{ascii, line_of, Puts}
use Rattle.chunk_answers.specs.Item.{record_numbers}
use Rattle.chunk_answers.specs.Walk.{item_lines}

-- the record of a row's words
abbrev pub row_record : List ℕ → Record
row_record row = record { offset = slice_index row 1; size = slice_index row 2; id = slice_index row 3; time = slice_index row 4 }

-- the line of a row's words, by its item
abbrev pub line_by : List ℕ → ℕ → List ℕ → List ℕ
line_by s item row =
    pick (item == 1) (line_of (ascii "live") (record_numbers s (row_record row)))
    (pick (item == 2) (line_of (ascii "carved") (record_numbers s (row_record row)))
    (pick (item == 3) (line_of (ascii "refused") (slice_index row 2 ∷ slice_index row 1 ∷ []))
    (ascii "done\n")))

abbrev pub row_line : List ℕ → List ℕ → List ℕ
row_line s row = line_by s (slice_index row 0) row

-- the lines of the answers that rows are of
abbrev pub RowsPut : List ℕ → List ℕ → List ℕ → ℕ → List ℕ → ℕ → Type 0
RowsPut s rows lent at left end = (items : List Reply) → rows ≡ rows_of items → Puts (item_lines s items ++ ascii "done\n") lent at left end
