-- A number, or the most that counts. Assumes nothing.
use Rattle.std.specs.Prelude.{min}
use mathlib.Core.Path.{◌≡◌, refl, sym, ap, ◌∙◌}
use mathlib.Core.List.{List}
use Prim.Native.Nat.{ℕ, ◌≤◌}
use native.Mathlib.Omega.{arith}
use lib.Dec.{leb}
use lib.ListN.{length, take, replicate, length-replicate}
use lib.Seq.{length-take-le}
use Rattle.cursor.specs.Answer.{pick}
use Rattle.stream_answers.proofs.Lending.{take_replicate}
use Rattle.stream_answers.proofs.Stored.{count_within}

pub least : (n most : ℕ) → min n most ≡ pick (leb n most) n most
least n most = count_within (min n most) n most refl

-- how long the first of zeros are
pub first_length : (k n x : ℕ) → k ≤ n → length (take k (replicate n x)) ≡ k
first_length k n x h = length-take-le k (replicate n x) (omega (arith, length-replicate {A = ℕ} n x))

-- the words that are lent: the first of all, or all
pub first_lent : (n most x : ℕ) → take (min n most) (replicate most x) ≡ replicate (pick (leb n most) n most) x
first_lent n most x =
    let e : min n most ≡ min (min n most) most = omega arith in
    take_replicate x (min n most) most ∙ ap (λ (k : ℕ). replicate k x) (sym (count_within (min n most) (min n most) most e) ∙ least n most)
