-- `at` of a `u64`: one byte after another. Assumes nothing.
use Prim.Native.Nat.{◌+◌}
use native.Mathlib.Omega.{arith}
use Rattle.cursor.proofs.Numbers.{number_more, number_one}
use Rattle.cursor.proofs.number.U64Number.at.Goals as goal

pub returns : goal.returns
returns c =
    let a = c.args in
    let s = a.s.now in
    omega (
      arith,
      c.from_le_bytes.ensures,
      number_more s a.at (a.at + 1) 7 (omega arith) (omega arith),
      number_more s (a.at + 1) (a.at + 2) 6 (omega arith) (omega arith),
      number_more s (a.at + 2) (a.at + 3) 5 (omega arith) (omega arith),
      number_more s (a.at + 3) (a.at + 4) 4 (omega arith) (omega arith),
      number_more s (a.at + 4) (a.at + 5) 3 (omega arith) (omega arith),
      number_more s (a.at + 5) (a.at + 6) 2 (omega arith) (omega arith),
      number_more s (a.at + 6) (a.at + 7) 1 (omega arith) (omega arith),
      number_one s (a.at + 7) (omega arith),
    )
