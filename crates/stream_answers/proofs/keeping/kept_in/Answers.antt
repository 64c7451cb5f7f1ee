-- `kept_in` meets its contract. Assumes nothing.
use mathlib.Core.Path.{ap}
use borrow.Author.Rules.{rules}
use Rattle.print.proofs.Putting.{◌▸◌, put_as}
use Rattle.stream_answers.specs.Modes.{answer_text, words_text}
use Rattle.stream_answers.proofs.keeping.kept_in.Goals as goal

pub returns : goal.returns
returns c = put_as (ap answer_text c.moved-r.ensures.value) c.said-end.ensures ▸ put_as (ap words_text c.moved-r.ensures.words_after) c.sheet_line.ensures
