-- `crc32::eight` meets its contract: eight bytes are shifted in at once, as two numbers of four bytes (`eight_at`).
-- Assumes nothing.
use mathlib.Core.Path.{ap, ap₂, ◌∙◌}
use lib.Bits.{bit_xor}
use borrow.Author.Rules.{rules}
use Rattle.crc32.specs.Crc.{shift_bits}
use Rattle.crc32.proofs.Lists.{eight_at}
use Rattle.crc32.proofs.eight.Goals as goal

pub returns : goal.returns
returns c =
    let a = c.args in
    ap₂ bit_xor (c.word.ensures ∙ ap (shift_bits 32) c.word_at.ensures)
    (c.word-2.ensures ∙ ap (λ w. shift_bits 64 (bit_xor a.c w)) c.word_at-2.ensures)
    ∙ eight_at a.s.now a.at a.c (search rules)
