-- `put_words` meets its contract: both words. Assumes nothing.
use mathlib.Core.Path.{ap}
use Prim.Native.Nat.{ℕ, ◌+◌, ◌-◌, ◌*◌}
use Rattle.sheet.proofs.Noting.{both_as}
use borrow.Author.Rules.{rules}
use Rattle.nest.proofs.inner.put_words.Goals as goal

pub returns : goal.returns
returns c =
    let a = c.args in
    both_as a.sheet.now _ (a.n * 2) _ _ _ _ c.put_both.ensures (ap (λ (w : ℕ). w + (8 - a.left) * 16) c.first_word.ensures) c.second_word.ensures
