-- `dependent` meets its contract. Assumes nothing.
use borrow.Author.Rules.{rules}
use mathlib.Core.Path.{sym}
use Rattle.print.proofs.Putting.{put_as}
use Rattle.stream_answers.proofs.token.dependent.Goals as goal

pub returns-then-t : goal.returns-then-t
returns-then-t c = put_as (sym (simp c.if-t.true)) c.number.ensures

pub returns : goal.returns
returns c = put_as (sym (simp c.if-t.false)) c.text.ensures
