-- `single` meets its contract. Assumes nothing.
use borrow.Author.Rules.{rules}
use mathlib.Core.Path.{ap}
use Rattle.print.proofs.Putting.{◌▸◌, put_as}
use Rattle.stream_answers.specs.Modes.{single_text, ends_text}
use Rattle.stream_answers.proofs.single.Goals as goal

pub returns : goal.returns
returns c =
    put_as (ap single_text c.single_instance_offset.ensures) c.start_line-a.ensures
    ▸ put_as (ap ends_text c.ends_stream.ensures) c.ends_line.ensures
