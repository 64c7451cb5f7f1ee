-- `merge`, `merge_call` and `merge_answers`: one answer and one content of the result are allowed, when a merge is refused, and that the
-- C call's answer word loses nothing. Assumes nothing.
use mathlib.Core.Path.{◌≡◌, refl, sym, ap, subst, ◌∙◌}
use mathlib.Core.Bool.{Bool, true, false}
use mathlib.Core.Logic.{inl, inr}
use mathlib.Core.List.{List, ◌++◌}
use Prim.Native.Nat.{ℕ, ◌+◌, ◌/◌, ◌^◌, ◌≤◌, ◌<◌}
use native.Mathlib.Omega.{arith}
use borrow.Author.Tests.{leb-true, leb-false}
use contract.Lifetimes.{Lfts}
use borrow.Fn.Kinds.{Dens, res_t, ended_of}
use denote.Triple.Clauses.{AtExit}
use lib.Dec.{leb}
use lib.ListN.{length}
use Rattle.cursor.specs.Answer.{Result, gives, refuses, pick}
use Rattle.cursor.specs.Answers.{count_answer}
use Rattle.cursor.specs.Lent.{laid}
use Rattle.cursor.proofs.Choice.{either}
use Rattle.doortumble.specs.Calls.{packed_of}
use Rattle.merge.specs.Writes.{Write, writes_of, write_words}
use Rattle.merge.specs.Select.{Choice, Selects, most_writes, limits_of, has_room, rows_answer, rows_left, MergesOn, choice_of, Merges}
use Rattle.merge.specs.Rows.{union, newest_of}
use Rattle.merge.specs.declared.Rule.{Rule}
use Rattle.merge.proofs.Finding.{split}
use Rattle.merge.proofs.Selecting.{selection, selection_only, union_length, newest_length}
use Rattle.merge.proofs.merge.Kinds as mergeK
use Rattle.merge.proofs.merge.Reads as mergeR
use Rattle.merge_call.specs.Calls.{rule_in, MergePacked}
use Rattle.merge_call.proofs.doortumble_merge.Kinds as callK
use Rattle.merge_call.proofs.doortumble_merge.Reads as callR
use Rattle.print.proofs.One.{some_one}
use Rattle.stream_answers.specs.Modes.{answer_text, words_text}
use Rattle.merge_answers.specs.Merged.{MergeCalled}
use Rattle.merge_answers.proofs.merged.Kinds as textK
use Rattle.merge_answers.proofs.merged.Reads as textR
use Rattle.merge_answers.proofs.front.Kinds as frontK
use Rattle.merge_answers.proofs.front.Reads as frontR
use Rattle.promises.specs.Merging.{Exact, Refusals}
use Rattle.promises.specs.Packed.{unpacked_of}
use Rattle.promises.proofs.One.{Single, counted_one}
use Rattle.promises.proofs.Packed.{InBits, answer_kept}

pub merges_by : (c : Choice) (p o : List Write) (lent m n : List ℕ) (x y : Result ℕ) (l : Result Unit) → MergesOn c p o lent m x l
    → MergesOn c p o lent n y l → (x ≡ y) × (m ≡ n)
merges_by c p o lent m n x y (gives u) a b =
    let e = selection_only c p o a.rows b.rows a.selects b.selects in
    (a.answered ∙ ap (λ (r : List Write). rows_answer r lent) e ∙ sym b.answered, a.written ∙ ap (λ (r : List Write). rows_left r lent) e ∙ sym b.written)
merges_by c p o lent m n x y (refuses k q) a b = (a.0 ∙ sym b.0, a.1 ∙ sym b.1)

-- answer and result
pub merge : (κs : Lfts 3) (a : Dens κs mergeK.ps) (x y : (res_t mergeK.r κs).Denot) (s t : AtExit (ended_of 3 mergeK.ps mergeK.r) κs)
    → mergeR.Post κs a x s → mergeR.Post κs a y t → (x ≡ y) × (s.1.1.1.0.now ≡ t.1.1.1.0.now)
merge κs a x y s t p q =
    let w = writes_of a.0.now in
    let v = writes_of a.1.0.now in
    let e = merges_by (choice_of a.1.1.0) w v a.1.1.1.0.now s.1.1.1.0.now t.1.1.1.0.now (count_answer x) (count_answer y) (limits_of w v) p q in
    (counted_one x y _ e.0 refl, e.1)

pub merge_call : (κs : Lfts 3) (a : Dens κs callK.ps) (x y : (res_t callK.r κs).Denot) (s t : AtExit (ended_of 3 callK.ps callK.r) κs)
    → callR.Post κs a x s → callR.Post κs a y t → (x ≡ y) × (s.1.1.1.0.now ≡ t.1.1.1.0.now)
merge_call κs a x y s t p q =
    let w = writes_of a.0.now in
    let v = writes_of a.1.0.now in
    let e = merges_by (choice_of (rule_in a.1.1.0)) w v a.1.1.1.0.now s.1.1.1.0.now t.1.1.1.0.now p.0 q.0 (limits_of w v) p.1.1 q.1.1 in
    (p.1.0 ∙ ap packed_of e.0 ∙ sym q.1.0, e.1)

-- a refusal is no count
given_not : (n k q : ℕ) → refuses k q ≡ gives n → ⊥
given_not n k q e = subst is e tt
  where
    is : Result ℕ → Type 0
    is (gives m) = ⊥
    is (refuses j r) = Unit {0}

-- what tells two answers apart
abbrev number_in : Result ℕ → ℕ
number_in (gives n) = 0
number_in (refuses k q) = k

abbrev place_in : Result ℕ → ℕ
place_in (gives n) = n
place_in (refuses k q) = q

-- an answer that is given where its ground holds, and one that is not where it does not
so : {A : Type 0} (x w : Result ℕ) → x ≡ w → A → Exact (x ≡ w) A
so x w e a = ((λ f. a), (λ b. e))

not_so : {A : Type 0} (x v w : Result ℕ) → x ≡ v → (v ≡ w → ⊥) → (A → ⊥) → Exact (x ≡ w) A
not_so x v w e n m = ((λ f. absurd (n (sym e ∙ f))), (λ a. absurd (m a)))

-- a merge is refused exactly where a list is too long or the result too short, in that order, and only then
module _ (c : Choice) (p o rows : List Write) (sel : Selects c p o rows) (lent left : List ℕ) (x : Result ℕ) where
  long_first : most_writes < length p → x ≡ refuses 27 0 → left ≡ lent → Refusals p o rows lent left x
  long_first h e l =
      record {
        primary_long = so x (refuses 27 0) e h;
        other_long = not_so x (refuses 27 0) (refuses 27 1) e (λ f. absurd (omega (arith, ap place_in f))) (λ a. absurd (omega (arith, h, a.0)));
        no_room = not_so x (refuses 27 0) (refuses 28 (length rows)) e (λ f. absurd (omega (arith, ap number_in f))) (λ a. absurd (omega (arith, h, a.0)));
        merged = not_so x (refuses 27 0) (gives (length rows)) e (λ f. given_not (length rows) 27 0 f) (λ a. absurd (omega (arith, h, a.0)));
        no_other = λ k q f. inl e;
        counts = λ n f. absurd (given_not n 27 0 (sym e ∙ f));
        leaves = λ k q f. l;
        writes = λ n f. absurd (given_not n 27 0 (sym e ∙ f));
      }

  long_second : length p ≤ most_writes → most_writes < length o → x ≡ refuses 27 1 → left ≡ lent → Refusals p o rows lent left x
  long_second g h e l =
      record {
        primary_long = not_so x (refuses 27 1) (refuses 27 0) e (λ f. absurd (omega (arith, ap place_in f))) (λ a. absurd (omega (arith, g, a)));
        other_long = so x (refuses 27 1) e (g, h);
        no_room = not_so x (refuses 27 1) (refuses 28 (length rows)) e (λ f. absurd (omega (arith, ap number_in f))) (λ a. absurd (omega (arith, h, a.1.0)));
        merged = not_so x (refuses 27 1) (gives (length rows)) e (λ f. given_not (length rows) 27 1 f) (λ a. absurd (omega (arith, h, a.1.0)));
        no_other = λ k q f. inr (inl e);
        counts = λ n f. absurd (given_not n 27 1 (sym e ∙ f));
        leaves = λ k q f. l;
        writes = λ n f. absurd (given_not n 27 1 (sym e ∙ f));
      }

  room_short : length p ≤ most_writes → length o ≤ most_writes → length lent / 3 < length rows → x ≡ refuses 28 (length rows) → left ≡ lent
      → Refusals p o rows lent left x
  room_short g h r e l =
      let n = length rows in
      record {
        primary_long = not_so x (refuses 28 n) (refuses 27 0) e (λ f. absurd (omega (arith, ap number_in f))) (λ a. absurd (omega (arith, g, a)));
        other_long = not_so x (refuses 28 n) (refuses 27 1) e (λ f. absurd (omega (arith, ap number_in f))) (λ a. absurd (omega (arith, h, a.1)));
        no_room = so x (refuses 28 n) e (g, (h, r));
        merged = not_so x (refuses 28 n) (gives n) e (λ f. given_not n 28 n f) (λ a. absurd (omega (arith, r, a.1.1)));
        no_other = λ k q f. inr (inr e);
        counts = λ m f. absurd (given_not m 28 n (sym e ∙ f));
        leaves = λ k q f. l;
        writes = λ m f. absurd (given_not m 28 n (sym e ∙ f));
      }

  all_given : length p ≤ most_writes → length o ≤ most_writes → length rows ≤ length lent / 3 → x ≡ gives (length rows) → left ≡ laid (write_words rows) lent
      → Refusals p o rows lent left x
  all_given g h r e l =
      let n = length rows in
      record {
        primary_long = not_so x (gives n) (refuses 27 0) e (λ f. given_not n 27 0 (sym f)) (λ a. absurd (omega (arith, g, a)));
        other_long = not_so x (gives n) (refuses 27 1) e (λ f. given_not n 27 1 (sym f)) (λ a. absurd (omega (arith, h, a.1)));
        no_room = not_so x (gives n) (refuses 28 n) e (λ f. given_not n 28 n (sym f)) (λ a. absurd (omega (arith, r, a.1.1)));
        merged = so x (gives n) e (g, (h, r));
        no_other = λ k q f. absurd (given_not n k q (sym f ∙ e));
        counts = λ m f. ap place_in (sym f ∙ e);
        leaves = λ k q f. absurd (given_not n k q (sym f ∙ e));
        writes = λ m f. l;
      }

  exactly_on : MergesOn c p o lent left x (limits_of p o) → Refusals p o rows lent left x
  exactly_on =
      either (λ (l : Result Unit). MergesOn c p o lent left x l → Refusals p o rows lent left x) (leb (length p) most_writes) _ _
      (λ e. either (λ (l : Result Unit). MergesOn c p o lent left x l → Refusals p o rows lent left x) (leb (length o) most_writes) _ _
      (λ f a.
      let g = leb-true (length p) most_writes e in
      let h = leb-true (length o) most_writes f in
      let s = selection_only c p o a.rows rows a.selects sel in
      let n = length rows in
      let is : x ≡ rows_answer rows lent = a.answered ∙ ap (λ (r : List Write). rows_answer r lent) s in
      let has : left ≡ rows_left rows lent = a.written ∙ ap (λ (r : List Write). rows_left r lent) s in
      split (has_room rows lent)
      (λ b. all_given g h (leb-true n (length lent / 3) b) (is ∙ ap (λ (z : Bool). pick z (gives n) (refuses 28 n)) b) (has ∙ ap (λ (z : Bool). pick z (laid (write_words rows) lent) lent) b))
      (λ b. room_short g h (leb-false n (length lent / 3) b) (is ∙ ap (λ (z : Bool). pick z (gives n) (refuses 28 n)) b) (has ∙ ap (λ (z : Bool). pick z (laid (write_words rows) lent) lent) b)))
      (λ f a. long_second (leb-true (length p) most_writes e) (leb-false (length o) most_writes f) a.0 a.1))
      (λ e a. long_first (leb-false (length p) most_writes e) a.0 a.1)

pub exactly_refused : (primary other : List ℕ) (rule : Rule) (lent left : List ℕ) (answer : Result ℕ) (rows : List Write)
    → Selects (choice_of rule) (writes_of primary) (writes_of other) rows → Merges primary other rule lent left answer
    → Refusals (writes_of primary) (writes_of other) rows lent left answer
exactly_refused primary other rule lent left answer rows s m =
    exactly_on (choice_of rule) (writes_of primary) (writes_of other) rows s lent left answer m

-- the answer word: at most 8,192 rows
row_count : (c : Choice) (p o rows : List Write) → Selects c p o rows → length rows ≤ length p + length o
row_count c p o rows s =
    let e = selection_only c p o rows (union c (newest_of p) (newest_of o)) s (selection c p o) in
    omega (arith, ap length e, union_length c (newest_of p) (newest_of o), newest_length p, newest_length o)

merge_bits : (c : Choice) (p o : List Write) (lent left : List ℕ) (x : Result ℕ) → MergesOn c p o lent left x (limits_of p o) → InBits x
merge_bits c p o lent left x =
    either (λ (l : Result Unit). MergesOn c p o lent left x l → InBits x) (leb (length p) most_writes) _ _
    (λ e. either (λ (l : Result Unit). MergesOn c p o lent left x l → InBits x) (leb (length o) most_writes) _ _
    (λ f a.
    let n = row_count c p o a.rows a.selects in
    let k : length a.rows < 2 ^ 40 = omega (arith, n, leb-true (length p) most_writes e, leb-true (length o) most_writes f) in
    subst InBits (sym a.answered) (either InBits (has_room a.rows lent) _ _ (λ z. k) (λ z. (omega arith, k))))
    (λ f a. subst InBits (sym a.0) (omega arith, omega arith)))
    (λ e a. subst InBits (sym a.0) (omega arith, omega arith))

-- what a C caller takes from the call's word is the answer
pub merge_told : (primary other : List ℕ) (rule : Rule) (lent left : List ℕ) (word : ℕ) → MergePacked primary other rule lent left word
    → Merges primary other rule lent left (unpacked_of word)
merge_told primary other rule lent left word (x, (e, a)) =
    subst (Merges primary other rule lent left)
    (sym (ap unpacked_of e ∙ answer_kept x (merge_bits (choice_of rule) (writes_of primary) (writes_of other) lent left x a))) a

-- the text of the batch's mode M: one word and one content of the lent words, so one text
text_one : (primary other : List ℕ) (rule : Rule) (lent t u : List ℕ) → MergeCalled primary other rule lent t → MergeCalled primary other rule lent u → t ≡ u
text_one primary other rule lent t u p q =
    let w = writes_of primary in
    let v = writes_of other in
    let e = merges_by (choice_of rule) w v lent p.left q.left p.packed.0 q.packed.0 (limits_of w v) p.packed.1.1 q.packed.1.1 in
    let word : p.word ≡ q.word = p.packed.1.0 ∙ ap packed_of e.0 ∙ sym q.packed.1.0 in
    p.is ∙ ap (λ (n : ℕ). answer_text n ++ words_text p.left) word ∙ ap (λ (l : List ℕ). answer_text q.word ++ words_text l) e.1 ∙ sym q.is

pub merge_text : (κs : Lfts 2) (a : Dens κs textK.ps) (x y : (res_t textK.r κs).Denot) (s t : AtExit (ended_of 2 textK.ps textK.r) κs)
    → textR.Post κs a x s → textR.Post κs a y t → (s.0.now ≡ t.0.now) × (x ≡ y)
merge_text κs a x y s t p q = some_one _ _ _ _ _ _ _ (λ t u. text_one _ _ _ _ t u) p q

pub merge_front : Single 1 frontK.ps frontK.r frontR.Post
merge_front κs a x y s t p q = p ∙ sym q
