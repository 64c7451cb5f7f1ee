-- `signed` meets its contract: the bits, and the number that they are. Assumes nothing.
use mir.Syntax.{w64}
use mir.ValLaws.{to_z-of_z}
use borrow.Author.Rules.{rules}
use Rattle.value.proofs.scalars.signed.Goals as goal

pub returns : goal.returns
returns c = rw (c.decoded.ensures, to_z-of_z w64 c.signed_of.result (record { sfits = c.signed_of.type_inv }), c.signed_of.ensures)
