-- `resync` meets its contract. Assumes nothing.
use Rattle.std.proofs.Common.{sym, ap, rules}
use Rattle.print.proofs.Putting.{put_as}
use Rattle.chunk_answers.specs.Record.{found_line}
use Rattle.chunk_answers.proofs.one_record.resync.Goals as goal

pub returns-in-Some : goal.returns-in-Some
returns-in-Some c =
    put_as (ap found_line (sym c.in-Some.is)) c.line.ensures

pub returns-in-None : goal.returns-in-None
returns-in-None c = put_as (ap found_line (sym c.in-None.is)) c.text.ensures
