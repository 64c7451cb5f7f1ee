-- `table` meets its contract. Assumes nothing.
use Rattle.std.proofs.Common.{rules}
use Rattle.print.proofs.Putting.{◌▸◌}
use Rattle.chunk_answers.proofs.chunk_header.table.Goals as goal

pub returns : goal.returns
returns c =
    c.text-a.ensures
    ▸ c.halves-b.ensures
    ▸ c.byte.ensures
