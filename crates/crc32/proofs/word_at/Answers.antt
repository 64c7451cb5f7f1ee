-- `crc32::word_at` meets its contract: four bytes share no bit, so their sum is their xor (`little_four`), and they are the part of the list
-- (`four_at`). Assumes nothing.
use mathlib.Core.Path.{◌≡◌, ap, ◌∙◌}
use Prim.Native.Nat.{◌+◌, ◌*◌}
use native.Mathlib.Omega.{arith}
use lib.ListN.{get_or}
use borrow.Author.Rules.{rules}
use Rattle.crc32.specs.Helpers.{little}
use Rattle.crc32.proofs.Lists.{little_four, four_at}
use Rattle.crc32.proofs.word_at.Goals as goal

pub returns : goal.returns
returns c =
    let a = c.args in
    let s = a.s.now in
    let i = a.at in
    let e : c.from_le_bytes.result ≡ get_or s i 0 + 256 * get_or s (i + 1) 0 + 65536 * get_or s (i + 2) 0 + 0x1000000 * get_or s (i + 3) 0 = omega (arith, c.from_le_bytes.ensures) in
    e
    ∙ little_four (get_or s i 0) (get_or s (i + 1) 0) (get_or s (i + 2) 0) (get_or s (i + 3) 0)
    (search (rules, c.type_inv.s i)) (search (rules, c.type_inv.s (i + 1))) (search (rules, c.type_inv.s (i + 2))) (search (rules, c.type_inv.s (i + 3)))
    ∙ ap little (four_at s i (search rules))
