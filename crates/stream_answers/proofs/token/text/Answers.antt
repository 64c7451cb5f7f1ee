-- `text` meets its contract: the view's bytes, and whether it is sound. Assumes nothing.
use borrow.Author.Rules.{rules}
use mathlib.Core.Path.{ap}
use Rattle.print.proofs.Putting.{◌▸◌, put_as}
use Rattle.stream_answers.specs.Content.{bytes_field}
use Rattle.stream_answers.proofs.token.text.Goals as goal

pub returns : goal.returns
returns c =
    put_as (ap bytes_field c.of.ensures) c.bytes-after.ensures
    ▸ c.number.ensures
