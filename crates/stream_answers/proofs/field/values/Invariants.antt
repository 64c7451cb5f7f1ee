-- `values` meets its contract: the values that are left, put behind those that are there, are the whole. Assumes nothing.
use borrow.Author.Rules.{rules}
use mathlib.Core.Path.{◌≡◌}
use native.Mathlib.Omega.{arith}
use lib.ListN.{length}
use Rattle.print.proofs.Putting.{Left, nothing_yet}
use Rattle.stream_answers.specs.Token.{values_from}
use Rattle.stream_answers.proofs.Parts.{left_next, left_none}
use Rattle.stream_answers.proofs.Listing.{left_falls, values_next, values_done, values_refused}
use Rattle.stream_answers.proofs.field.values.Given as goal

abbrev pub invariant-loop-x : goal.invariant-loop-x
invariant-loop-x l =
    (length l.out ≡ length l.initial.out) × Left (values_from l.v.left l.s l.v) l.out l.filled (values_from l.initial.v.left l.s l.initial.v) l.initial.out l.at

abbrev pub decreases-loop-x : goal.decreases-loop-x
decreases-loop-x l = l.v.left
