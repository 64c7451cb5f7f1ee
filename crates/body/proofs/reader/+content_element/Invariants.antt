-- What the loop of `content` keeps, and what falls: each call is of fewer tokens, or of as many and of `element`. Assumes nothing.
use mathlib.Core.Path.{◌≡◌}
use mathlib.Core.List.{List, ◌∷◌}
use Prim.Native.Nat.{ℕ, suc, ◌+◌, ◌-◌, ◌*◌, ◌≤◌}
use lib.ListN.{length}
use Rattle.body.specs.Reader.{walk, inside}
use Rattle.body.proofs.reader.+content_element.Given as goal

abbrev pub decreases-content : goal.decreases-content
decreases-content l = 2 * (length l.marks.now - l.at) + 1

abbrev pub decreases-element : goal.decreases-element
decreases-element l = 2 * (length l.marks.now - l.at)

abbrev pub invariant-content-loop-i : goal.invariant-content-loop-i
invariant-content-loop-i l =
    (l.at ≤ l.i) × (l.i ≤ length l.marks) × (length l.table ≡ length l.initial.table) × (l.level ≡ 0 → (l.i ≡ l.at) × (l.table ≡ l.initial.table))
    × ((st : List ℕ) → suc (length st) ≡ l.level → walk l.marks (inside (l.me ∷ st)) l.i l.table ≡ walk l.marks (inside (l.me ∷ st)) l.at l.initial.table)

abbrev pub decreases-content-loop-i : goal.decreases-content-loop-i
decreases-content-loop-i l = length l.marks - l.i
