-- `line` meets its contract. Assumes nothing.
use borrow.Author.Rules.{rules}
use Rattle.print.proofs.Putting.{◌▸◌}
use Rattle.stream_answers.proofs.token.line.Goals as goal

pub returns : goal.returns
returns c =
    c.decimal-a.ensures
    ▸ c.number-b.ensures
    ▸ c.number-c.ensures
    ▸ c.held-d.ensures
    ▸ c.byte.ensures
