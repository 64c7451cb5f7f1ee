-- The lesser of two numbers, by a test, and what is left behind so many bytes. Assumes nothing.
use mathlib.Core.Path.{◌≡◌, sym, ap, ◌∙◌}
use mathlib.Core.List.{List}
use Prim.Native.Nat.{ℕ, min}
use native.Mathlib.Omega.{arith}
use native.Mathlib.Decide.{dec_lt}
use borrow.Author.Tests.{le-leb, lt-leb}
use lib.Dec.{leb}
use lib.ListN.{length, drop}
use Rattle.cursor.specs.Answer.{pick}
use Rattle.stream_answers.proofs.Lending.{drop_short}

pub least : (room there : ℕ) → min room there ≡ pick (leb room there) room there
least room there =
    elim (dec_lt there room) [
      | yes h ↦ rw (lt-leb room there h) (omega arith)
      | no h ↦ rw (le-leb room there (omega arith)) (omega arith)
    ]

pub drop_upto : (n m : ℕ) (l : List ℕ) → m ≡ min n (length l) → drop m l ≡ drop n l
drop_upto n m l e =
    elim (dec_lt (length l) n) [
      | yes h ↦ drop_short m l (omega (arith, e)) ∙ sym (drop_short n l (omega arith))
      | no h ↦
          let k : m ≡ n = omega (arith, e) in
          ap (λ (i : ℕ). drop i l) k
    ]
