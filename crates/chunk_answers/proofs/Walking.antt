-- The lines of rows: what holds after each. Assumes nothing.
use Rattle.std.proofs.Common.{◌≡◌, ℕ, ◌+◌, ◌*◌, ◌<◌, ◌≤◌, Bool, List, [], ◌∷◌, ◌++◌, length, get_or, take, drop, sym, refl, ap, ◌∙◌, subst, arith, ne_eqb}
use Rattle.cursor.specs.Answer.{Maybe, just, nothing}
use Rattle.cursor.specs.Answers.{refusal}
use Rattle.cursor.specs.declared.Refusal.{Refusal}
use Rattle.record.specs.Chunk.{fields_at}
use Rattle.record.specs.declared.Record.{Record}
use Rattle.chunk.specs.Walk.{Reply, live, carved, refused_with}
use Rattle.chunk.specs.Listing.{row_of, step_row, rows_of, row_words, first_row}
use Rattle.chunk.specs.declared.Row.{Row}
use Rattle.chunk.proofs.Laying.{RowsGone, gone_none, gone_more, gone_all}
use Rattle.chunk.proofs.AllRows.{AllRows}
use Rattle.print.specs.Text.{ascii, line_of, Puts, PutsSome, each, refused_of}
use Rattle.print.proofs.Putting.{◌▸◌, put_none, put_as, each_more}
use Rattle.chunk_answers.specs.Item.{record_numbers, item_line, step_line}
use Rattle.chunk_answers.specs.Walk.{item_lines, WalkOn, WalkText}
use Rattle.chunk_answers.specs.Lines.{row_record, line_by, row_line, RowsPut}

-- a row's line is that of the answer that it is of
row_line_lem : (s : List ℕ) (x : Reply) → row_line s (row_of x) ≡ item_line s x
row_line_lem s (live r) = refl
row_line_lem s (carved r) = refl
row_line_lem s (refused_with number place) = refl

pub step_line_lem : (s : List ℕ) (x : Maybe Reply) → row_line s (step_row x) ≡ step_line s x
step_line_lem s (just i) = row_line_lem s i
step_line_lem s nothing = refl

-- the line of a row, by its item
module _ (s row : List ℕ) (item : ℕ) where
  pub live_row : (r : Record) (ns : List ℕ) → item ≡ 1 → r ≡ row_record row → ns ≡ record_numbers s r → line_of (ascii "live") ns ≡ line_by s item row
  live_row r ns e f n =
      ap (line_of (ascii "live")) (n ∙ ap (record_numbers s) f)
      ∙ subst (λ (k : ℕ). line_of (ascii "live") (record_numbers s (row_record row)) ≡ line_by s k row) (sym e) refl

  pub carved_row : (r : Record) (ns : List ℕ) → item ≡ 2 → r ≡ row_record row → ns ≡ record_numbers s r → line_of (ascii "carved") ns ≡ line_by s item row
  carved_row r ns e f n =
      ap (line_of (ascii "carved")) (n ∙ ap (record_numbers s) f)
      ∙ subst (λ (k : ℕ). line_of (ascii "carved") (record_numbers s (row_record row)) ≡ line_by s k row) (sym e) refl

  pub refused_row : item ≡ 3 → line_of (ascii "refused") (get_or row 2 0 ∷ get_or row 1 0 ∷ []) ≡ line_by s item row
  refused_row e = subst (λ (k : ℕ). line_of (ascii "refused") (get_or row 2 0 ∷ get_or row 1 0 ∷ []) ≡ line_by s k row) (sym e) refl

  pub last_row : (item ≡ 1 → ⊥) → (item ≡ 2 → ⊥) → (item ≡ 3 → ⊥) → ascii "done\n" ≡ line_by s item row
  last_row a b c = rw (ne_eqb item 1 a, ne_eqb item 2 b, ne_eqb item 3 c) refl

-- the lines of some answers are put
abbrev pub LinesPut : List ℕ → List ℕ → ℕ → List ℕ → ℕ → List Reply → Type 0
LinesPut s lent at out end done = Puts (item_lines s done) lent at out end

-- what holds before each row
pub record WalkedTo (s rows lent : List ℕ) (at : ℕ) (out : List ℕ) (end i : ℕ) : Type 0 where
  pub within : i ≤ length rows
  pub kept : length out ≡ length lent
  pub lines : RowsGone rows (LinesPut s lent at out end) i

pub walked_none : (s rows lent : List ℕ) (at : ℕ) → WalkedTo s rows lent at lent at 0
unfolding each
walked_none s rows lent at = record { within = omega arith; kept = refl; lines = gone_none rows (LinesPut s lent at lent at) put_none }

-- the same place, under another name
pub place_is : {s rows lent out : List ℕ} {at end i j : ℕ} → i ≡ j → WalkedTo s rows lent at out end i → WalkedTo s rows lent at out end j
place_is {s} {rows} {lent} {out} {at} {end} {i} {j} e g = subst (λ (n : ℕ). WalkedTo s rows lent at out end n) e g

module _ (s rows lent : List ℕ) (at : ℕ) {out : List ℕ} {end i : ℕ} (g : WalkedTo s rows lent at out end i) where
  -- one row more
  pub walked_more : (row : Row) (next : List ℕ) (m : ℕ) → i + 5 ≤ length rows → row_words row ≡ first_row (drop i rows) → length next ≡ length out
      → Puts (row_line s (row_words row)) out end next m → WalkedTo s rows lent at next m (i + 5)
  walked_more row next m h w k p =
      record {
        within = h;
        kept = k ∙ g.kept;
        lines = gone_more rows (LinesPut s lent at out end) i g.lines (LinesPut s lent at next m) (row_words row) h w
            (λ done x f l. put_as (each_more (item_line s) done x) (l ▸ put_as (ap (row_line s) f ∙ row_line_lem s x) p));
      }

  -- no row is left
  pub walked_all : (next : List ℕ) (m : ℕ) → length rows < i + 5 → Puts (ascii "done\n") out end next m → RowsPut s rows lent at next m
  walked_all next m h p items is = gone_all rows (LinesPut s lent at out end) i g.lines h items is ▸ p

-- mode W: a chunk with a header, whose rows are all there, and one that is refused
module _ (s : List ℕ) (recover : Bool) {lent left : List ℕ} {at end : ℕ} where
  pub walk_read : (rows : List ℕ) (n : ℕ) → AllRows s recover rows n → RowsPut s (take (5 * n) rows) lent at left end
      → PutsSome (WalkText s recover) lent at left end
  walk_read rows n w p =
      let text = item_lines s w.items ++ ascii "done\n" in
      record {
        text = text;
        allowed = subst (WalkOn s recover text) (sym w.header) (record { items = w.items; runs = w.runs; is = refl });
        puts = p w.items w.rows;
      }

  pub walk_refused : (r : Refusal) → fields_at s ≡ refusal r → Puts (refused_of r) lent at left end → PutsSome (WalkText s recover) lent at left end
  walk_refused r e p = record { text = refused_of r; allowed = subst (WalkOn s recover (refused_of r)) (sym e) refl; puts = p }
