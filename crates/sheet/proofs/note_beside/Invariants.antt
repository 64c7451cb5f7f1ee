-- `note_beside` meets its contract: after n tokens their words and marks are noted, so many words of the given sheet are right, and the rest of
-- the walk is left. Assumes nothing.
use mathlib.Core.Path.{◌≡◌, sym, ap, subst, ◌∙◌}
use mathlib.Core.List.{List}
use Prim.Native.Nat.{ℕ, ◌+◌, ◌-◌, ◌*◌, ◌^◌, ◌≤◌}
use native.Mathlib.Nat.{zero-mul}
use native.Mathlib.Omega.{arith}
use borrow.Author.Rules.{rules}
use lib.ListN.{length}
use Rattle.tokens.specs.Walk.{step_answer, walk_at, counted_of}
use Rattle.tokens.proofs.Reach.{Grows}
use Rattle.tokens.proofs.Steps.{step_grows, walk_is, walk_token, plus, plus_zero, plus_none, plus_before}
use Rattle.sheet.specs.Kept.{in_form}
use Rattle.sheet.specs.Noted.{form_width, RightSoFar}
use Rattle.sheet.proofs.Noting.{words, marks, set_one, both_as, read_is, Noting, noting_start, noting_next, noting_last, noting_refused}
use Rattle.sheet.proofs.Keeping.{two_in_form_lem, formed, one_more, Along, along_start, along_next, along_over, beside_ended, beside_refused}
use Rattle.sheet.proofs.note_beside.Given as goal

abbrev pub invariant-loop-t : goal.invariant-loop-t
invariant-loop-t l =
    (l.n ≤ l.at) × (counted_of (walk_at l.s l.end l.flags l.start) ≡ plus l.n (walk_at l.s l.end l.flags l.at)) × Noting l.s l.end l.flags words l.start l.at l.n l.initial.words l.words
    × Noting l.s l.end l.flags marks l.start l.at l.n l.initial.kinds l.kinds × Along l.s l.end l.flags (formed l.form) l.start l.given l.at (l.n * form_width l.form) l.same × (l.n ≤ length l.s)
    × (length l.s * 2 + 2 ≤ 2 ^ 64)

abbrev pub decreases-loop-t : goal.decreases-loop-t
decreases-loop-t l = length l.s - l.at
