-- `record` meets its contract: the record, then the resync offset. Assumes nothing.
use Rattle.std.specs.Prelude.{Result, Option}
use Rattle.cursor.specs.declared.Refusal.{Refusal}
use Rattle.std.proofs.Common.{ℕ, ◌++◌, sym, ap, rules}
use Rattle.record.specs.Record.{record_at}
use Rattle.print.proofs.Putting.{◌▸◌, put_as}
use Rattle.chunk_answers.specs.Record.{record_line, resync_line}
use Rattle.chunk_answers.proofs.Texts.{with_resync, no_resync}
use Rattle.chunk_answers.proofs.one_record.record.Goals as goal

pub returns-in-Ok : goal.returns-in-Ok
returns-in-Ok c =
    let a = c.args in
    let line = record_line a.chunk.now (record_at a.chunk.now a.start a.strict) in
    let resync = c.resync_after in
    with_resync a.chunk.now a.start a.strict resync.result resync.ensures
    (put_as (ap (λ (k : Result (Option ℕ) Refusal). line ++ resync_line k) (sym c.in-Ok.is))
    (c.read-end.ensures
    ▸ c.resync.ensures))

pub returns-in-Err : goal.returns-in-Err
returns-in-Err c =
    let a = c.args in
    let resync = c.resync_after in
    no_resync a.chunk.now a.start a.strict resync.result resync.ensures (ap resync_line c.in-Err.is)
    c.read-end.ensures
