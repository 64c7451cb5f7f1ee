-- `size_t` meets its contract: 4 or 8 bytes, or a refusal. Assumes nothing.
use mathlib.Core.Path.{◌≡◌}
use mathlib.Core.Bool.{true, ◌||◌}
use mathlib.Core.Logic.{◌⊎◌, inl, inr}
use Prim.Native.Nat.{ℕ}
use native.Mathlib.Omega.{arith}
use borrow.Author.Tests.{eq-eqb, ne_eqb}
use lib.Dec.{eqb}
use lib.ListN.{length}
use borrow.Author.Rules.{rules}
use Rattle.cursor.specs.Answer.{◌then◌}
use Rattle.cursor.specs.Reads.{take_at}
use Rattle.value.specs.Value.{as_number}
use Rattle.value.proofs.Inside.{as_number_lem, takes, movable}
use Rattle.value.proofs.contents.size_t.Goals as goal

one_of : (n : ℕ) → (n ≡ 4) ⊎ ((n ≡ 4 → ⊥) × (n ≡ 8)) → (eqb n 4 || eqb n 8) ≡ true
one_of n (inl e) = simp (eq-eqb _ _ e)
one_of n (inr e) = simp (ne_eqb _ _ e.0, eq-eqb _ _ e.1)

pub number-requires : goal.number-requires
number-requires c =
    let a = c.args in
    rw c.take_bytes.ensures (movable a.start (length a.rest.now) (take_at a.rest.now 0 a.size then as_number) (as_number_lem (length a.rest.now) (take_at a.rest.now 0 a.size) (takes a.rest.now a.size)) (omega arith))

pub returns-then-size-eq8 : goal.returns-then-size-eq8
returns-then-size-eq8 c = simp (c.number.ensures, c.take_bytes.ensures, one_of c.args.size c.if-size-eq8.either)
