-- `events` meets its contract. Assumes nothing.
use Rattle.std.proofs.Common.{ap, ◌∙◌, rules}
use Rattle.print.proofs.Putting.{put_as}
use Rattle.chunk_answers.specs.Events.{events_line}
use Rattle.chunk_answers.proofs.Judging.{events_judged}
use Rattle.chunk_answers.proofs.events_checksum.events.Goals as goal

pub returns : goal.returns
returns c = put_as (events_judged _ ∙ ap events_line c.check_events.ensures) c.judged.ensures
