-- `tables` meets its contract. Assumes nothing.
use Rattle.std.proofs.Common.{rules}
use Rattle.print.proofs.Putting.{◌▸◌}
use Rattle.chunk_answers.proofs.chunk_header.tables.Goals as goal

pub returns : goal.returns
returns c = c.table-end.ensures ▸ c.table.ensures
