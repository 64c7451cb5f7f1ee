-- `scalar` meets its contract. Assumes nothing.
use borrow.Author.Rules.{rules}
use mathlib.Core.Path.{sym, ap}
use Rattle.print.proofs.Putting.{put_as}
use Rattle.stream_answers.specs.Content.{scalar_text}
use mathlib.Core.Path.{◌∙◌}
use mathlib.Core.List.{◌++◌}
use lib.IntN.{ℤ}
use mir.Syntax.{w64}
use mir.ValLaws.{to_z-of_z}
use Rattle.print.specs.Text.{ascii}
use Rattle.stream_answers.specs.Content.{signed_text}
use Rattle.stream_answers.proofs.content.scalar.Goals as goal

pub returns-in-Signed : goal.returns-in-Signed
returns-in-Signed c =
    let e = ap (λ (z : ℤ). ascii "i" ++ signed_text z) (to_z-of_z w64 c.in-Signed.z (record { sfits = c.in-Signed.known_told-1-own.given.0.1 })) in
    put_as (e ∙ ap (scalar_text c.args.bits) (sym c.in-Signed.is)) c.signed.ensures

pub returns-in-Unsigned : goal.returns-in-Unsigned
returns-in-Unsigned c =
    put_as (ap (scalar_text c.args.bits) (sym c.in-Unsigned.is)) c.unsigned.ensures

pub returns-in-Single : goal.returns-in-Single
returns-in-Single c =
    put_as (ap (scalar_text c.args.bits) (sym c.in-Single.is)) c.single.ensures

pub returns-in-Double : goal.returns-in-Double
returns-in-Double c =
    put_as (ap (scalar_text c.args.bits) (sym c.in-Double.is)) c.double.ensures
