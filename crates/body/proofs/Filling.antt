-- A whole reading, as an outcome and a table. Assumes nothing.
use Rattle.std.specs.Prelude.{Ok, Err, Result}
use Rattle.body.specs.declared.reader.Misread.{Misread}
use mathlib.Core.Path.{◌≡◌, sym, ap, ◌∙◌}
use mathlib.Core.Bool.{true}
use mathlib.Core.List.{List}
use Prim.Native.Nat.{ℕ, ◌≤◌}
use native.Mathlib.Omega.{arith}
use lib.ListN.{length, take}
use lib.Seq.{sets, length-sets}
use Rattle.cursor.specs.Lent.{laid}
use Rattle.sheet.proofs.Laying.{front, set_laid}
use Rattle.body.specs.Verdict.{deepest}
use Rattle.body.specs.Reader.{begin, Out, accepted, outcome, words_from, walk, refused, whole_of}
use Rattle.body.proofs.Agree.{words_length}

left_is : (r : Result ℕ Misread) (left : List ℕ) (o : Out) (l : List ℕ) → whole_of r left ≡ (o, l) → left ≡ l
left_is (Ok j) left o l e = ap (λ (x : Out × List ℕ). x.1) e
left_is (Err r) left o l e = ap (λ (x : Out × List ℕ). x.1) e

module _ (t : List ℕ) where
  abbrev words : List ℕ
  words = words_from true deepest begin 0 t

  -- a whole reading answers as the walk does
  module _ (r : Result ℕ Misread) (left table : List ℕ) (e : whole_of r left ≡ walk t begin 0 table) where
    pub whole_accepted : (j : ℕ) → r ≡ Ok j → outcome true deepest begin 0 t ≡ accepted
    unfolding walk
    whole_accepted j h = sym (ap (λ (x : Out × List ℕ). x.0) (ap (λ (r : Result ℕ Misread). whole_of r left) (sym h) ∙ e))

    pub whole_refused : (p k : ℕ) → r ≡ Err (record { place = p; number = k }) → outcome true deepest begin 0 t ≡ refused k p
    unfolding walk
    whole_refused p k h = sym (ap (λ (x : Out × List ℕ). x.0) (ap (λ (r : Result ℕ Misread). whole_of r left) (sym h) ∙ e))

    pub whole_table : left ≡ sets table 0 words
    unfolding walk
    whole_table = left_is r left (outcome true deepest begin 0 t) (sets table 0 words) e

    pub whole_length : length left ≡ length table
    whole_length = ap length whole_table ∙ length-sets table 0 words

    -- where the table has room the words are laid
    pub whole_laid : outcome true deepest begin 0 t ≡ accepted → length t ≤ length table → left ≡ laid words table
    whole_laid a h = whole_table ∙ set_laid table words (omega (arith, words_length true deepest t begin 0 a))

    -- the words stand at the front of a table that has room
    pub stands : outcome true deepest begin 0 t ≡ accepted → length t ≤ length left → take (length t) left ≡ words
    stands a h =
        let n = words_length true deepest t begin 0 a in
        let k = whole_length in
        let b : length words ≤ length table = omega (arith, n, k) in
        ap (take (length t)) whole_table ∙ ap (λ (i : ℕ). take i (sets table 0 words)) (sym n) ∙ front table words b
