-- `filled` meets its contract: the zeros behind the bytes change no number. Assumes nothing.
use mathlib.Core.Path.{sym, ◌∙◌}
use mathlib.Core.List.{[]}
use native.Mathlib.Omega.{arith}
use lib.ListN.{drop, length-drop, drop_of_length-le}
use Rattle.cursor.proofs.Numbers.{number_each, number_filled}
use Rattle.cursor.proofs.Units.{tail}
use Rattle.cursor.proofs.number.filled.Goals as goal

pub returns-then-s-at : goal.returns-then-s-at
returns-then-s-at c = λ w. let a = c.args in number_filled [] w ∙ sym (rw (drop_of_length-le a.s.now c.if-s-at.true))

pub returns : goal.returns
returns c =
    λ w. let a = c.args in
    rw (c.byte.ensures, c.byte-2.ensures, c.byte-3.ensures, c.byte-4.ensures, c.byte-5.ensures, c.byte-6.ensures, c.byte-7.ensures, c.byte-8.ensures, tail a.s.now a.at)
    (number_each (drop a.at a.s.now) w (omega (arith, length-drop a.at a.s.now, c.requires)))
