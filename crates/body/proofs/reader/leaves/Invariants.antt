-- `leaves` meets its contract: from the token that is looked at, the walk goes on as from the first. Assumes nothing.
use mathlib.Core.Path.{◌≡◌, refl, sym, ◌∙◌}
use mathlib.Core.List.{List, ◌∷◌}
use Prim.Native.Nat.{ℕ, ◌-◌, ◌≤◌}
use native.Mathlib.Omega.{arith}
use borrow.Author.Rules.{rules}
use lib.ListN.{length}
use Rattle.body.specs.Reader.{walk, inside}
use Rattle.body.proofs.Walking as walking
use Rattle.body.proofs.reader.leaves.Given as goal

abbrev pub invariant-loop-i : goal.invariant-loop-i
invariant-loop-i l =
    (l.at ≤ l.i) × (l.i ≤ length l.marks) × (length l.table ≡ length l.initial.table) × ((st : List ℕ) → walk l.marks (inside (l.me ∷ st)) l.i l.table ≡ walk l.marks (inside (l.me ∷ st)) l.at l.initial.table)

abbrev pub decreases-loop-i : goal.decreases-loop-i
decreases-loop-i l = length l.marks - l.i
