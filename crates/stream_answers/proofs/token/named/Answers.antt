-- `named` meets its contract. Assumes nothing.
use borrow.Author.Rules.{rules}
use Rattle.print.proofs.Putting.{◌▸◌}
use Rattle.stream_answers.proofs.token.named.Goals as goal

pub returns : goal.returns
returns c =
    c.number-a.ensures
    ▸ c.opened-b.ensures
    ▸ c.judged.ensures
