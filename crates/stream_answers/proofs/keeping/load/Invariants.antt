-- `load` meets its contract: the words so far are laid. Assumes nothing.
use mathlib.Core.Path.{◌≡◌}
use Prim.Native.Nat.{◌≤◌}
use lib.ListN.{length, take}
use Rattle.cursor.specs.Lent.{laid}
use Rattle.stream_answers.specs.Kept.{stored_words, most_given}
use Rattle.stream_answers.proofs.keeping.load.Given as goal

abbrev pub invariant-loop-i : goal.invariant-loop-i
invariant-loop-i l =
    (l.i ≤ length l.initial.words) × (length l.initial.words ≤ most_given) × (l.words ≡ laid (take l.i (stored_words (length l.initial.words) l.bytes 8)) l.initial.words) × (length l.words ≡ length l.initial.words)
