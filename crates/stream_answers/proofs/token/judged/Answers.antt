-- `judged` meets its contract. Assumes nothing.
use borrow.Author.Rules.{rules}
use mathlib.Core.Path.{sym, ap}
use Rattle.print.proofs.Putting.{put_as}
use Rattle.stream_answers.specs.Token.{soundness_text}
use Rattle.stream_answers.proofs.token.judged.Goals as goal

pub returns-in-Sound : goal.returns-in-Sound
returns-in-Sound c = put_as (ap soundness_text (sym c.in-Sound.is)) c.text.ensures

pub returns-in-Unsound : goal.returns-in-Unsound
returns-in-Unsound c = put_as (ap soundness_text (sym c.in-Unsound.is)) c.text-in-Unsound.ensures

pub returns-in-NotJudged : goal.returns-in-NotJudged
returns-in-NotJudged c = put_as (ap soundness_text (sym c.in-NotJudged.is)) c.text-in-NotJudged.ensures
