-- `crc32::over` meets its contract: what the eights leave is the rest of the list (`all`).
-- Assumes nothing.
use mathlib.Core.Path.{ap, ◌∙◌}
use Prim.Native.Nat.{◌-◌, ◌*◌, ◌/◌}
use lib.ListN.{length, take, drop}
use borrow.Author.Rules.{rules}
use Rattle.crc32.specs.Crc.{crc_over}
use Rattle.crc32.proofs.Lists.{all}
use Rattle.crc32.proofs.over.Goals as goal

pub returns : goal.returns
returns c =
    let a = c.args in
    let s = a.s.now in
    let n = 8 * (length s / 8) in
    c.ones.ensures ∙ ap (λ x. crc_over x (take (length s - n) (drop n s))) c.eights-c.ensures
    ∙ all s n a.first (search rules)
