-- `narrowed` meets its contract. Assumes nothing.
use mathlib.Core.Path.{sym}
use native.Mathlib.Omega.{arith}
use Rattle.kept.specs.Narrow.{old_of}
use Rattle.kept.proofs.Narrowing.{old_length, no_room, in_room}
use Rattle.kept.proofs.narrowed.Goals as goal

pub returns-then-old-tokens : goal.returns-then-old-tokens
returns-then-old-tokens c =
    let a = c.args in let both = no_room (old_of a.sheet.now) a.old.now _ (sym (old_length a.sheet.now)) c.if-old-tokens.true in rw c.refuse.ensures (record { result_value = both.0; after = both.1 })

pub lay_old-requires : goal.lay_old-requires
lay_old-requires c =
    let a = c.args in
    omega (arith, c.if-old-tokens.false, old_length a.sheet.now)

pub returns : goal.returns
returns c =
    let a = c.args in let both = in_room (old_of a.sheet.now) a.old.now _ _ (sym (old_length a.sheet.now)) c.if-old-tokens.false c.lay_old.ensures in record { result_value = both.0; after = both.1 }
