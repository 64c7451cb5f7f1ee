-- `given_count` meets its contract. Assumes nothing.
use Rattle.std.specs.Prelude.{min}
use mathlib.Core.Path.{◌≡◌, ap, ◌∙◌}
use Prim.Native.Nat.{ℕ}
use native.Mathlib.Omega.{arith}
use borrow.Author.Rules.{rules}
use Rattle.cursor.specs.Reads.{number_of}
use Rattle.stream_answers.proofs.Stored.{count_within}
use Rattle.stream_answers.proofs.keeping.given_count.Goals as goal

pub returns : goal.returns
returns c =
    let n = number_of c.args.bytes.now 4 4 in
    let h : c.min.result ≡ min n 41471 = c.min.ensures ∙ ap (λ (k : ℕ). min k 41471) c.u32_at.ensures in
    (count_within _ n 41471 h, omega (arith, h))
