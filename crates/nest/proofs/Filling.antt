-- Both lent buffers, from what the walk has noted. Assumes nothing.
use mathlib.Core.Path.{◌≡◌, refl, sym, ap, subst, ◌∙◌}
use mathlib.Core.Bool.{Bool, true, false}
use mathlib.Core.List.{List, ◌++◌}
use mathlib.Core.Logic.{◌⊎◌, inl, inr, ⊎_elim}
use Prim.Native.Nat.{ℕ, ◌+◌, ◌*◌, ◌≤◌, ◌<◌}
use native.Mathlib.Omega.{arith}
use borrow.Author.Tests.{le-leb, lt-leb}
use lib.Dec.{leb}
use lib.ListN.{length, take, drop, length-map}
use lib.Seq.{sets, length-sets}
use Rattle.cursor.specs.Answer.{Result, gives, refuses, pick}
use Rattle.cursor.specs.Lent.{laid}
use Rattle.cursor.specs.Refusals.{no_room_number}
use Rattle.sheet.proofs.Laying.{front, set_laid}
use Rattle.body.specs.Reader.{verdict_on}
use Rattle.body.proofs.Answers.{verdict_right}
use Rattle.body.proofs.One.{one_verdict}
use Rattle.tokens.specs.Walk.{window_of}
use Rattle.tokens.specs.declared.Flags.{Flags}
use Rattle.body.specs.Verdict.{Both, both, followed, both_answer, written_by, both_left}
use Rattle.nest.specs.Nested.{Entry, sheet_of, owners_of, both_words, entry_count, in_window, nested_of, Nested, Counts}
use Rattle.nest.specs.Pieces.{full, FullAnswer, Laid, WalkRead, window_by, Tried, CountTried, Noted}
use Rattle.nest.proofs.Stacks.{sheet_length}

-- the answer by the two tests for room
abbrev answer_by : Bool → Bool → ℕ → ℕ → Result ℕ
answer_by a b m n = followed (pick a (gives m) (refuses no_room_number m)) (pick b (gives n) (refuses no_room_number n))

module _ (x : Result (List Entry)) (l : List Entry) (e : x ≡ gives l) (n : ℕ) (c : n ≡ length l) (sheet₀ table₀ : List ℕ) where
  sheet_count : length (sheet_of l) ≡ n * 2
  sheet_count = omega (arith, sheet_length l, c)

  owners_count : length (owners_of l) ≡ n
  owners_count = length-map l (λ (e : Entry). e.word) ∙ sym c

  answer_is : (a b : Bool) → leb (length (sheet_of l)) (length sheet₀) ≡ a → leb (length (owners_of l)) (length table₀) ≡ b
      → both_answer (both_words x) (both sheet₀ table₀) ≡ answer_by a b (n * 2) n
  answer_is a b p q =
      ap (λ (y : Result (List Entry)). both_answer (both_words y) (both sheet₀ table₀)) e
      ∙ ap (λ (z : Bool). answer_by z (leb (length (owners_of l)) (length table₀)) (length (sheet_of l)) (length (owners_of l))) p
      ∙ ap (λ (z : Bool). answer_by a z (length (sheet_of l)) (length (owners_of l))) q
      ∙ ap (λ (m : ℕ). answer_by a b m (length (owners_of l))) sheet_count ∙ ap (answer_by a b (n * 2)) owners_count

  left_is : (o : Result ℕ) → both_answer (both_words x) (both sheet₀ table₀) ≡ o
      → both_left (both_words x) (both sheet₀ table₀) ≡ written_by o (both (sheet_of l) (owners_of l)) (both sheet₀ table₀)
  left_is o q =
      ap (λ (y : Result (List Entry)). both_left (both_words y) (both sheet₀ table₀)) e
      ∙ ap (λ (z : Result ℕ). written_by z (both (sheet_of l) (owners_of l)) (both sheet₀ table₀)) (sym (ap (λ (y : Result (List Entry)). both_answer (both_words y) (both sheet₀ table₀)) e) ∙ q)

  -- both have room
  pub both_laid : (sheet table : List ℕ) → n * 2 ≤ length sheet₀ → n ≤ length table₀ → sheet ≡ laid (sheet_of l) sheet₀ → table ≡ laid (owners_of l) table₀
      → (gives n ≡ both_answer (both_words x) (both sheet₀ table₀)) × (both sheet table ≡ both_left (both_words x) (both sheet₀ table₀))
  both_laid sheet table p q s t =
      let a =
      answer_is true true (le-leb (length (sheet_of l)) (length sheet₀) (omega (arith, sheet_count, p))) (le-leb (length (owners_of l)) (length table₀) (omega (arith, owners_count, q))) in
      (sym a, (λ i. both (s i) (t i)) ∙ sym (left_is (gives n) a))

  -- the sheet is too short, or the table is
  pub no_sheet : length sheet₀ < n * 2
      → (refuses no_room_number (n * 2) ≡ both_answer (both_words x) (both sheet₀ table₀)) × (both sheet₀ table₀ ≡ both_left (both_words x) (both sheet₀ table₀))
  no_sheet p =
      let a = answer_is false (leb (length (owners_of l)) (length table₀)) (lt-leb (length (sheet_of l)) (length sheet₀) (omega (arith, sheet_count, p))) refl in
      (sym a, sym (left_is (refuses no_room_number (n * 2)) a))

  pub no_table : n * 2 ≤ length sheet₀ → length table₀ < n
      → (refuses no_room_number n ≡ both_answer (both_words x) (both sheet₀ table₀)) × (both sheet₀ table₀ ≡ both_left (both_words x) (both sheet₀ table₀))
  no_table p q =
      let a =
      answer_is true false (le-leb (length (sheet_of l)) (length sheet₀) (omega (arith, sheet_count, p))) (lt-leb (length (owners_of l)) (length table₀) (omega (arith, owners_count, q))) in
      (sym a, sym (left_is (refuses no_room_number n) a))

-- what is refused before
pub both_refused : (x : Result (List Entry)) (k p : ℕ) (lent : Both) → x ≡ refuses k p
    → (refuses k p ≡ both_answer (both_words x) lent) × (lent ≡ both_left (both_words x) lent)
both_refused x k p lent e =
    (ap (λ (y : Result (List Entry)). both_answer (both_words y) lent) (sym e), ap (λ (y : Result (List Entry)). both_left (both_words y) lent) (sym e))

-- the words are all noted, and were copied
pub both_copied : (x : Result (List Entry)) (n : ℕ) (own owners sheet₀ sheet table₀ table : List ℕ) → Noted x n own owners → n * 2 ≤ length own → n ≤ length owners
    → n * 2 ≤ length sheet₀ → n ≤ length table₀ → sheet ≡ laid (take (n * 2) own) sheet₀ → table ≡ laid (take n owners) table₀
    → (gives n ≡ both_answer (both_words x) (both sheet₀ table₀)) × (both sheet table ≡ both_left (both_words x) (both sheet₀ table₀))
both_copied x n own owners sheet₀ sheet table₀ table h a b p q s t =
    both_laid x h.entries h.holds n h.count sheet₀ table₀ sheet table p q (s ∙ ap (λ (w : List ℕ). laid w sheet₀) (h.words a))
    (t ∙ ap (λ (w : List ℕ). laid w table₀) (h.owned b))

-- the walk has noted its words from the first on
pub noted_is : (s : List ℕ) (room : ℕ) (x : Result (List Entry)) (end n : ℕ) (own₀ own owners₀ owners : List ℕ) → length s ≤ 65536
    → WalkRead s room x 0 false end own₀ own owners₀ owners (gives n) → Noted x n own owners
noted_is s room x end n own₀ own owners₀ owners b w =
    let y = w.0 in
    let c : n ≡ length y.entries = omega (arith, y.count) in
    let m = length (sheet_of y.entries) in
    let p : m ≡ n * 2 = omega (arith, sheet_length y.entries, c) in
    let q : length (owners_of y.entries) ≡ n = length-map y.entries (λ (e : Entry). e.word) ∙ sym c in
    record {
      entries = y.entries;
      holds = y.holds;
      count = c;
      few = omega (arith, w.2, b);
      words = λ r.
          ap (take (n * 2)) y.words ∙ ap (λ (i : ℕ). take i (sets own₀ 0 (sheet_of y.entries))) (sym p)
          ∙ front own₀ (sheet_of y.entries) (omega (arith, p, r, ap length y.words, length-sets own₀ 0 (sheet_of y.entries)));
      owned = λ r.
          ap (take n) y.owners ∙ ap (λ (i : ℕ). take i (sets owners₀ 0 (owners_of y.entries))) (sym q)
          ∙ front owners₀ (owners_of y.entries) (omega (arith, q, r, ap length y.owners, length-sets owners₀ 0 (owners_of y.entries)));
    }

same_entries : (x : Result (List Entry)) (a b : List Entry) → x ≡ gives a → x ≡ gives b → a ≡ b
same_entries x a b e q =
    let z : gives a ≡ gives b = sym e ∙ q in
    cc

not_both : (x : Result (List Entry)) (a : List Entry) (k p : ℕ) → x ≡ gives a → x ≡ refuses k p → ⊥
not_both x a k p e q =
    let z : gives a ≡ refuses k p = sym e ∙ q in
    let y : ◌≡◌ {A = ℕ} 0 1 = cc in
    omega arith

-- the walk goes again into the buffers themselves
pub again : (s : List ℕ) (room : ℕ) (x : Result (List Entry)) (end n : ℕ) (own owners sheet₀ sheet table₀ table : List ℕ) (o : Result ℕ) → Noted x n own owners
    → length s ≤ room → n * 2 ≤ length sheet₀ → n ≤ length table₀ → WalkRead s room x 0 false end sheet₀ sheet table₀ table o
    → (o ≡ both_answer (both_words x) (both sheet₀ table₀)) × (both sheet table ≡ both_left (both_words x) (both sheet₀ table₀))
again s room x end n own owners sheet₀ sheet table₀ table (gives m) h b p q w =
    let l = h.entries in
    let y = w.0 in
    let z = same_entries x y.entries l y.holds h.holds in
    let c : length (sheet_of l) ≤ length sheet₀ = omega (arith, sheet_length l, h.count, p) in
    let d : length (owners_of l) ≤ length table₀ = omega (arith, length-map l (λ (e : Entry). e.word), h.count, q) in
    let g : m ≡ n = omega (arith, y.count, ap (length {A = Entry}) z, h.count) in
    let r =
    both_laid x l h.holds n h.count sheet₀ table₀ sheet table p q
    (y.words ∙ ap (λ (e : List Entry). sets sheet₀ 0 (sheet_of e)) z ∙ set_laid sheet₀ (sheet_of l) c)
    (y.owners ∙ ap (λ (e : List Entry). sets table₀ 0 (owners_of e)) z ∙ set_laid table₀ (owners_of l) d) in
    (ap gives g ∙ r.0, r.1)
again s room x end n own owners sheet₀ sheet table₀ table (refuses k i) h b p q w =
    absurd (⊎_elim (λ y. omega (arith, y.1, b)) (λ y. not_both x h.entries k i h.holds y) w)

-- the first walk is refused, or its stacks are full
pub tried_refused : (s : List ℕ) (room : ℕ) (x : Result (List Entry)) (k p : ℕ) (lent : Both) → ((k ≡ full) × (0 + room < length s)) ⊎ (x ≡ refuses k p)
    → Tried s room x lent lent (refuses k p)
tried_refused s room x k p lent w = ⊎_elim (λ y. inl (y.0, omega (arith, y.1), refl)) (λ y. inr (both_refused x k p lent y)) w

-- by the reader's verdict, and so by every judge that says what the grammar says
module _ (s : List ℕ) (start len : ℕ) (f : Flags) (lent left : Both) (o : Result ℕ) where
  abbrev By : (List ℕ → Result (List ℕ)) → Type 0
  By judge = (o ≡ both_answer (both_words (nested_of judge s start len f)) lent) × (left ≡ both_left (both_words (nested_of judge s start len f)) lent)

  by_any : By verdict_on → Nested s start len f lent left o
  by_any h judge right =
      let e : verdict_on ≡ judge = λ i t. one_verdict t (verdict_right t) (right t) i in
      subst By e h

  pub by_window : (from end : ℕ) → gives (from, end) ≡ window_of s start len
      → (o ≡ both_answer (both_words (window_by s 8 false f 0 from end)) lent) × (left ≡ both_left (both_words (window_by s 8 false f 0 from end)) lent)
      → Nested s start len f lent left o
  by_window from end e h =
      by_any (subst (λ (w : Result (ℕ × ℕ)). (o ≡ both_answer (both_words (in_window verdict_on s f w)) lent) × (left ≡ both_left (both_words (in_window verdict_on s f w)) lent)) e h)

  pub by_refusal : (k p : ℕ) → refuses k p ≡ window_of s start len → o ≡ refuses k p → left ≡ lent → Nested s start len f lent left o
  by_refusal k p e q r =
      by_any (subst (λ (w : Result (ℕ × ℕ)). (o ≡ both_answer (both_words (in_window verdict_on s f w)) lent) × (left ≡ both_left (both_words (in_window verdict_on s f w)) lent)) e (q, r))

-- a refusal leaves both as they were
refused_left : (x : Result Both) (lent : Both) (k p : ℕ) → refuses k p ≡ both_answer x lent → both_left x lent ≡ lent
refused_left (gives words) lent k p e = ap (λ (o : Result ℕ). written_by o words lent) (sym e)
refused_left (refuses m q) lent k p e = refl

-- so that a try whose stacks were full leaves them so
pub tried_same : (s : List ℕ) (room : ℕ) (x : Result (List Entry)) (lent left : Both) (o : Result ℕ) → Tried s room x lent left o → FullAnswer o → left ≡ lent
tried_same s room x lent left (gives n) w h = absurd h
tried_same s room x lent left (refuses k p) w h = ⊎_elim (λ y. y.2) (λ y. y.1 ∙ refused_left (both_words x) lent k p y.0) w

-- and one whose stacks are long enough for every stream is the last
pub tried_whole : (s : List ℕ) (room : ℕ) (x : Result (List Entry)) (lent left : Both) (o : Result ℕ) → length s ≤ room → Tried s room x lent left o
    → (o ≡ both_answer (both_words x) lent) × (left ≡ both_left (both_words x) lent)
tried_whole s room x lent left o b w = ⊎_elim (λ y. absurd (omega (arith, y.1, b))) (λ y. y) w

-- what is counted by the reader's verdict, and so by every such judge
module _ (s : List ℕ) (start len : ℕ) (f : Flags) (o : Result ℕ) where
  abbrev CountBy : (List ℕ → Result (List ℕ)) → Type 0
  CountBy judge = o ≡ entry_count (nested_of judge s start len f)

  count_any : CountBy verdict_on → Counts s start len f o
  count_any h judge right =
      let e : verdict_on ≡ judge = λ i t. one_verdict t (verdict_right t) (right t) i in
      subst CountBy e h

  pub count_window : (from end : ℕ) → gives (from, end) ≡ window_of s start len → o ≡ entry_count (window_by s 8 false f 0 from end) → Counts s start len f o
  count_window from end e h = count_any (subst (λ (w : Result (ℕ × ℕ)). o ≡ entry_count (in_window verdict_on s f w)) e h)

  pub count_refusal : (k p : ℕ) → refuses k p ≡ window_of s start len → o ≡ refuses k p → Counts s start len f o
  count_refusal k p e q = count_any (subst (λ (w : Result (ℕ × ℕ)). o ≡ entry_count (in_window verdict_on s f w)) e q)

-- a walk into no words at all
pub count_tried : (s : List ℕ) (room : ℕ) (x : Result (List Entry)) (end : ℕ) (sheet₀ sheet table₀ table : List ℕ) (o : Result ℕ)
    → WalkRead s room x 0 false end sheet₀ sheet table₀ table o → CountTried s room x o
count_tried s room x end sheet₀ sheet table₀ table (gives m) w =
    let y = w.0 in
    let c : m ≡ length y.entries = omega (arith, y.count) in
    inr (ap gives c ∙ ap entry_count (sym y.holds))
count_tried s room x end sheet₀ sheet table₀ table (refuses k p) w =
    ⊎_elim (λ y. inl (y.0, omega (arith, y.1))) (λ y. inr (ap entry_count (sym y))) w
