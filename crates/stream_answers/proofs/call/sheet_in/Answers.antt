-- `sheet_in` meets its contract. Assumes nothing.
use borrow.Author.Rules.{rules}
use mathlib.Core.Path.{ap}
use Rattle.print.proofs.Putting.{◌▸◌, put_as}
use Rattle.stream_answers.specs.Modes.{count_text, words_text}
use Rattle.stream_answers.proofs.call.sheet_in.Goals as goal

pub returns : goal.returns
returns c =
    let f = c.fill-r.ensures in
    put_as (ap count_text f.result_value) c.counted-end.ensures ▸ put_as (ap words_text f.sheet_after) c.sheet_line.ensures
