-- `read` meets its contract: the line of a record that is read, or its refusal. Assumes nothing.
use Rattle.std.specs.Prelude.{Result}
use Rattle.cursor.specs.declared.Refusal.{Refusal}
use Rattle.std.proofs.Common.{ℕ, List, take, drop, sym, ap, ◌∙◌, rules}
use Rattle.record.specs.Answers.{record_answer}
use Rattle.record.specs.declared.Record.{Record}
use Rattle.print.specs.Text.{ascii, line_of}
use Rattle.print.proofs.Putting.{put_as}
use Rattle.chunk_answers.specs.Record.{record_line}
use Rattle.chunk_answers.proofs.one_record.read.Goals as goal

pub returns-in-Ok : goal.returns-in-Ok
returns-in-Ok c =
    let s = c.args.chunk.now in
    let e = ap (λ (k : Result Record Refusal). record_line s (record_answer k)) (sym c.in-Ok.is) ∙ ap (record_line s) c.read_record.ensures in
    let n = c.numbers-numbers.ensures in
    put_as (ap (λ (l : List ℕ). line_of (ascii "record") (take 5 (drop 1 l))) n ∙ e) c.line.ensures

pub returns-in-Err : goal.returns-in-Err
returns-in-Err c =
    let s = c.args.chunk.now in
    let e = ap (λ (k : Result Record Refusal). record_line s (record_answer k)) (sym c.in-Err.is) ∙ ap (record_line s) c.read_record.ensures in
    put_as e c.refused.ensures
