-- `content` meets its contract. Assumes nothing.
use borrow.Author.Rules.{rules}
use mathlib.Core.Path.{sym, ap, ◌∙◌}
use mathlib.Core.List.{List, ◌++◌}
use Prim.Native.Nat.{ℕ}
use Rattle.value.specs.Scalar.{decoded_of}
use Rattle.print.specs.Text.{ascii, hex_of}
use Rattle.print.proofs.Putting.{put_as}
use Rattle.stream_answers.specs.Content.{held_text, number_text}
use Rattle.stream_answers.proofs.content.content.Goals as goal

pub returns-in-Nothing : goal.returns-in-Nothing
returns-in-Nothing c =
    let a = c.args in
    put_as (ap (held_text a.s.now a.v.code) (sym c.in-Nothing.is)) c.byte.ensures

pub returns-in-Text : goal.returns-in-Text
returns-in-Text c =
    let a = c.args in
    put_as (ap (held_text a.s.now a.v.code) (sym c.in-Text.is)) c.text.ensures

pub returns-in-Number : goal.returns-in-Number
returns-in-Number c =
    let a = c.args in
    put_as
    (ap number_text (c.decode.ensures ∙ ap (decoded_of a.v.code) c.of.ensures)
    ∙ ap (held_text a.s.now a.v.code) (sym c.in-Number.is))
    c.number.ensures

pub returns-in-Bytes : goal.returns-in-Bytes
returns-in-Bytes c =
    let a = c.args in
    put_as
    (ap (λ (l : List ℕ). ascii "b" ++ hex_of l) c.of-in-Bytes.ensures
    ∙ ap (held_text a.s.now a.v.code) (sym c.in-Bytes.is))
    c.bytes.ensures
