-- `note` meets its contract. Assumes nothing.
use mathlib.Core.Path.{refl, ap}
use lib.ListN.{set}
use borrow.Author.Rules.{rules}
use Rattle.nest.proofs.inner.note.Goals as goal

pub returns : goal.returns
returns c =
    let a = c.args in record { marks_after = ap (set a.marks.now a.k) c.mark.ensures; numbers_after = refl; sheet_after = c.put_words.ensures }
