-- `note_whole` meets its contract: a mark, a number, and two stores. Assumes nothing.
use mathlib.Core.Path.{refl, ap}
use Prim.Native.Nat.{ℕ, ◌+◌, ◌-◌, ◌*◌}
use lib.ListN.{set}
use borrow.Author.Rules.{rules}
use Rattle.sheet.proofs.Noting.{put_two}
use Rattle.nest.proofs.inner.note_whole.Goals as goal

pub returns : goal.returns
returns c =
    let a = c.args in
    let w = put_two a.sheet.now _ (a.n * 2) _ _ _ _ refl (ap (λ (w : ℕ). w + (8 - a.left) * 16) c.first_word.ensures) c.second_word.ensures in record { marks_after = ap (set a.marks.now a.k) c.mark.ensures; numbers_after = refl; sheet_after = w }
