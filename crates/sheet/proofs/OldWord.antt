-- Document 01's word is the first word without the bit that document 02's P2 adds. Assumes nothing.
use mathlib.Core.Path.{◌≡◌}
use mathlib.Core.Bool.{Bool, true, false}
use Prim.Native.Nat.{ℕ, ◌+◌, ◌-◌, ◌*◌, ◌%◌, ◌^◌, ◌≤◌}
use native.Mathlib.Omega.{arith}
use Rattle.tokens.specs.declared.Token.{Token}
use Rattle.sheet.specs.Sheet.{flag_bit, word_of, first_word_of, without_bit}

pub bit_small : (b : Bool) → flag_bit b ≤ 1
bit_small true = omega arith
bit_small false = omega arith

-- what has nine zeros at its end, with the first of them set or not
bit_off : (m b : ℕ) → b ≤ 1 → without_bit (m * 2 ^ 9 + b * 2 ^ 8) ≡ m * 2 ^ 9
bit_off m b h = omega arith

pub old_word : (t : Token) → without_bit (first_word_of t) ≡ word_of t
old_word t =
    let m = t.kind % 2 ^ 4 * 2 ^ 51 + t.place % 2 ^ 17 * 2 ^ 34 + t.len % 2 ^ 17 * 2 ^ 17 + t.number * 2 + flag_bit t.flag in
    let e : word_of t ≡ m * 2 ^ 9 = omega arith in
    omega (arith, e, bit_off m (flag_bit t.announced) (bit_small t.announced))
