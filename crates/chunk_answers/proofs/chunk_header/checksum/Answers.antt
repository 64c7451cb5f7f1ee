-- `checksum` meets its contract. Assumes nothing.
use Rattle.std.proofs.Common.{ap, ◌∙◌, rules}
use Rattle.print.proofs.Putting.{put_as}
use Rattle.chunk_answers.specs.Header.{checksum_line}
use Rattle.chunk_answers.proofs.Judging.{checksum_judged}
use Rattle.chunk_answers.proofs.chunk_header.checksum.Goals as goal

pub returns : goal.returns
returns c = put_as (checksum_judged _ ∙ ap checksum_line c.check_header.ensures) c.judged.ensures
