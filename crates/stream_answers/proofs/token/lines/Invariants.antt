-- `lines` meets its contract: what is still to come of the walk's text, put behind what is there, is the whole. Assumes nothing.
use borrow.Author.Rules.{rules}
use mathlib.Core.Path.{◌≡◌, sym, ap, subst, ◌∙◌}
use mathlib.Core.List.{◌++◌}
use Prim.Native.Nat.{◌-◌, ◌≤◌}
use native.Mathlib.Omega.{arith}
use lib.ListN.{length}
use Rattle.tokens.specs.Walk.{step_answer, walk_at, counted_of}
use Rattle.tokens.proofs.Reach.{Grows}
use Rattle.tokens.proofs.Steps.{step_grows}
use Rattle.sheet.specs.Sheet.{read_at}
use Rattle.print.proofs.Putting.{Left}
use Rattle.stream_answers.specs.Walk.{tokens_text, last_text}
use Rattle.stream_answers.proofs.Parts.{left_next, left_all, left_whole}
use Rattle.stream_answers.proofs.Walking.{rest, rest_first, rest_next, rest_over, rest_refused}
use Rattle.stream_answers.proofs.token.lines.Given as goal

abbrev pub invariant-loop-t : goal.invariant-loop-t
invariant-loop-t l =
    (length l.out ≡ length l.initial.out) × (l.n ≤ l.here)
    × Left (rest l.s l.end l.flags l.here l.n) l.out l.filled (tokens_text l.s (read_at l.s l.end l.flags l.start) ++ last_text (counted_of (walk_at l.s l.end l.flags l.start))) l.initial.out l.at

abbrev pub decreases-loop-t : goal.decreases-loop-t
decreases-loop-t l = length l.s - l.here
