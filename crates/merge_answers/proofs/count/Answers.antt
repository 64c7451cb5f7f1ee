-- `count` meets its contract. Assumes nothing.
use Rattle.std.specs.Prelude.{min}
use mathlib.Core.Path.{ap, ◌∙◌}
use Prim.Native.Nat.{ℕ}
use native.Mathlib.Omega.{arith}
use Rattle.cursor.specs.Reads.{number_of}
use Rattle.merge_answers.proofs.Counts.{least}
use Rattle.merge_answers.proofs.count.Goals as goal

pub returns : goal.returns
returns c =
    (c.min.ensures ∙ ap (λ (n : ℕ). min n 41470) c.u32_at.ensures ∙ least (number_of c.args.bytes.now c.args.at 4) 41470, omega (arith, c.min.ensures))
