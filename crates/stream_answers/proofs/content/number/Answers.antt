-- `number` meets its contract. Assumes nothing.
use Rattle.std.specs.Prelude.{Option}
use borrow.Author.Rules.{rules}
use mathlib.Core.Path.{sym, ap}
use Rattle.value.specs.Scalar.{decoding_answer}
use Rattle.value.specs.declared.Decoded.{Decoded}
use Rattle.print.proofs.Putting.{put_as, put_none}
use Rattle.stream_answers.specs.Content.{number_text}
use Rattle.stream_answers.proofs.content.number.Goals as goal

pub returns-in-Some : goal.returns-in-Some
returns-in-Some c = put_as (ap (λ (d : Option Decoded). number_text (decoding_answer d)) (sym c.in-Some.is)) c.scalar.ensures

pub returns-in-None : goal.returns-in-None
returns-in-None c = put_as (ap (λ (d : Option Decoded). number_text (decoding_answer d)) (sym c.in-None.is)) put_none
