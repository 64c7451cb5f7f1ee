-- `ends_line` meets its contract. Assumes nothing.
use Rattle.std.specs.Prelude.{Some}
use borrow.Author.Rules.{rules}
use mathlib.Core.Path.{sym, ap, ◌∙◌}
use mathlib.Core.Bool.{Bool}
use Rattle.print.proofs.Putting.{put_as}
use Rattle.tokens.specs.Single.{ends_answer}
use Rattle.stream_answers.specs.Modes.{ends_text}
use Rattle.stream_answers.proofs.ends_line.Goals as goal

pub returns-in-Some-true : goal.returns-in-Some-true
returns-in-Some-true c =
    put_as
    (ap (λ (b : Bool). ends_text (ends_answer (Some b))) (sym c.in-Some-true.field-0-test)
    ∙ ap (λ x. ends_text (ends_answer x)) (sym c.in-Some-true.is))
    c.text.ensures

pub returns-in-Some-false : goal.returns-in-Some-false
returns-in-Some-false c =
    put_as
    (ap (λ (b : Bool). ends_text (ends_answer (Some b))) (sym c.in-Some-false.field-0-test)
    ∙ ap (λ x. ends_text (ends_answer x)) (sym c.in-Some-false.is))
    c.text-in-Some-false.ensures

pub returns-in-None : goal.returns-in-None
returns-in-None c = put_as (ap (λ x. ends_text (ends_answer x)) (sym c.in-None.is)) c.text-in-None.ensures
