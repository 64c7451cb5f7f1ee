-- `decimal` meets its contract. Assumes nothing.
use borrow.Author.Rules.{rules}
use mathlib.Core.Path.{◌∙◌}
use native.Mathlib.Omega.{arith}
use Rattle.print.proofs.Putting.{put_as}
use Rattle.print.proofs.Spelling.{from_first}
use Rattle.print.proofs.decimal.Goals as goal

pub returns : goal.returns
returns c = put_as (from_first c.spell-first.new.digits c.spell-first.result 20 (omega arith) ∙ c.spell-first.ensures.digits_after) c.text.ensures
