-- `lay` meets its contract: the words so far are laid. Assumes nothing.
use mathlib.Core.Path.{◌≡◌, refl, sym, ap, ◌∙◌}
use mathlib.Core.List.{List, ◌++◌}
use Prim.Native.Nat.{ℕ, suc, ◌+◌, ◌≤◌, ◌<◌}
use native.Mathlib.Omega.{arith}
use borrow.Author.Tests.{le-leb}
use lib.ListN.{length, get_or, drop, set, length-set}
use lib.Seq.{paste, paste-suc, take_all}
use Rattle.cursor.specs.Lent.{laid}
use Rattle.cursor.proofs.lay.Goals as goal

module _ (words lent left : List ℕ) (i : ℕ) (e : left ≡ paste lent 0 words i) where
  -- one word more
  next : i < length words → length words ≤ length lent → set left i (get_or words i 0) ≡ paste lent 0 words (i + 1)
  next h room =
      let z : 0 + i ≡ i = omega arith in
      let m : suc i ≡ i + 1 = omega arith in
      ap (λ (l : List ℕ). set l i (get_or words i 0)) e ∙ ap (λ (k : ℕ). set (paste lent 0 words i) k (get_or words i 0)) (sym z)
      ∙ paste-suc lent 0 words i 0 (omega arith) h ∙ ap (paste lent 0 words) m

  -- the last one
  whole : i ≡ length words → left ≡ laid words lent
  whole h =
      let z : 0 + i ≡ length words = omega arith in
      e ∙ ap (λ (l : List ℕ). l ++ drop (0 + i) lent) (take_all i words (omega arith)) ∙ ap (λ (k : ℕ). words ++ drop k lent) z

pub loop-i-init : goal.loop-i-init
loop-i-init c = (omega arith, c.if-lent-words.false, refl, refl)

pub loop-i-preserved : goal.loop-i-preserved
loop-i-preserved c =
    let a = c.args in
    let l = c.loop-i in
    let n = next a.words.now a.lent.now l.lent l.i l.invariant.2 c.loop-i-test.true l.invariant.1 in
    let m : l.i + 1 ≤ length a.words.now = omega (arith, c.loop-i-test.true) in
    (m, l.invariant.1, n, length-set l.lent l.i (get_or a.words.now l.i 0) ∙ l.invariant.3)

pub returns : goal.returns
returns c =
    let a = c.args in
    let l = c.loop-i in
    let b = le-leb (length a.words.now) (length a.lent.now) l.invariant.1 in record { result_value = rw b; lent_after = whole a.words.now a.lent.now l.lent l.i l.invariant.2 (omega (arith, l.invariant.0, c.loop-i-test.false)) ∙ rw b }
