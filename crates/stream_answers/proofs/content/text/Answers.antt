-- `text` meets its contract: the letter of a sound text, or of an unsound one. Assumes nothing.
use borrow.Author.Rules.{rules}
use mathlib.Core.Path.{sym, ap, ◌∙◌}
use mathlib.Core.Bool.{Bool}
use mathlib.Core.List.{List, ◌++◌}
use Prim.Native.Nat.{ℕ}
use Rattle.cursor.specs.Answer.{pick}
use Rattle.cursor.specs.Reads.{part_of}
use Rattle.print.specs.Text.{ascii, hex_of}
use Rattle.print.proofs.Putting.{put_as}
use Rattle.stream_answers.proofs.content.text.Goals as goal

pub returns-then-v : goal.returns-then-v
returns-then-v c =
    let a = c.args in
    put_as
    (ap (λ (l : List ℕ). ascii "t" ++ hex_of l) c.of.ensures
    ∙ ap (λ (b : Bool). pick b (ascii "t") (ascii "x") ++ hex_of (part_of a.s.now a.v.part)) (sym c.if-v.true))
    c.bytes.ensures

pub returns : goal.returns
returns c =
    let a = c.args in
    put_as
    (ap (λ (l : List ℕ). ascii "x" ++ hex_of l) c.of-2.ensures
    ∙ ap (λ (b : Bool). pick b (ascii "t") (ascii "x") ++ hex_of (part_of a.s.now a.v.part)) (sym c.if-v.false))
    c.bytes-2.ensures
