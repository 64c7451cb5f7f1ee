-- `attributes` meets its contract: from the token that is looked at, the walk goes on as from the tag's first. Assumes nothing.
use mathlib.Core.Path.{◌≡◌, refl, sym, ap, ◌∙◌}
use mathlib.Core.Bool.{true}
use mathlib.Core.List.{List}
use Prim.Native.Nat.{ℕ, ◌-◌, ◌≤◌}
use native.Mathlib.Omega.{arith}
use borrow.Author.Rules.{rules}
use lib.ListN.{length, get_or}
use Rattle.body.specs.Reader.{walk, tag}
use Rattle.body.proofs.Moves.{closes_some}
use Rattle.body.proofs.Walking as walking
use Rattle.body.proofs.reader.attributes.Given as goal

abbrev pub invariant-loop-i : goal.invariant-loop-i
invariant-loop-i l =
    (l.at ≤ l.i) × (l.i ≤ length l.marks) × (length l.table ≡ length l.initial.table) × (l.last ≡ 0 → l.i ≡ l.at)
    × ((st : List ℕ) → walk l.marks (tag true l.last l.me st) l.i l.table ≡ walk l.marks (tag true 0 l.me st) l.at l.initial.table)

abbrev pub decreases-loop-i : goal.decreases-loop-i
decreases-loop-i l = length l.marks - l.i
