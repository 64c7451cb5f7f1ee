-- `start_line` meets its contract. Assumes nothing.
use borrow.Author.Rules.{rules}
use mathlib.Core.Path.{sym, ap}
use Rattle.print.proofs.Putting.{put_as}
use Rattle.tokens.specs.Single.{single_answer}
use Rattle.stream_answers.specs.Modes.{single_text}
use Rattle.stream_answers.proofs.start_line.Goals as goal

pub returns-in-Some : goal.returns-in-Some
returns-in-Some c =
    put_as (ap (λ x. single_text (single_answer x)) (sym c.in-Some.is)) c.line.ensures

pub returns-in-None : goal.returns-in-None
returns-in-None c = put_as (ap (λ x. single_text (single_answer x)) (sym c.in-None.is)) c.text.ensures
