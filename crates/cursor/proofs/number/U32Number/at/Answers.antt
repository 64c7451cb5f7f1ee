-- `at` of a `u32`: one byte after another. Assumes nothing.
use Prim.Native.Nat.{◌+◌}
use native.Mathlib.Omega.{arith}
use Rattle.cursor.proofs.Numbers.{number_more, number_one}
use Rattle.cursor.proofs.number.U32Number.at.Goals as goal

pub returns : goal.returns
returns c =
    let a = c.args in
    let s = a.s.now in
    omega (
      arith,
      c.from_le_bytes.ensures,
      number_more s a.at (a.at + 1) 3 (omega arith) (omega arith),
      number_more s (a.at + 1) (a.at + 2) 2 (omega arith) (omega arith),
      number_more s (a.at + 2) (a.at + 3) 1 (omega arith) (omega arith),
      number_one s (a.at + 3) (omega arith),
    )
