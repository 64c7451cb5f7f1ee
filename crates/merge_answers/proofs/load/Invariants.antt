-- `load` meets its contract: the words so far are laid. Assumes nothing.
use mathlib.Core.Path.{◌≡◌}
use lib.ListN.{length, take}
use Rattle.cursor.specs.Lent.{laid}
use Rattle.stream_answers.specs.Kept.{stored_words}
use Rattle.merge_answers.proofs.load.Given as goal

abbrev pub invariant-loop-i : goal.invariant-loop-i
invariant-loop-i l = l.words ≡ laid (take l.i (stored_words (length l.initial.words) l.bytes l.from)) l.initial.words
