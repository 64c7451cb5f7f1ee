-- From what the reader says of a walk's marks to the public call's answer. Assumes nothing.
use mathlib.Core.Path.{◌≡◌, refl, sym, ap, subst, ◌∙◌}
use mathlib.Core.Bool.{true}
use mathlib.Core.List.{List}
use Prim.Native.Nat.{ℕ, ◌*◌, ◌≤◌, ◌<◌}
use native.Mathlib.Omega.{arith}
use native.Mathlib.Decide.{dec_lt}
use borrow.Author.Tests.{le-leb, lt-leb}
use lib.ListN.{length, take, length-take}
use lib.Seq.{sets, length-take-le}
use Rattle.cursor.specs.Answer.{Result, gives, refuses}
use Rattle.cursor.specs.Lent.{laid}
use Rattle.cursor.specs.Refusals.{no_room_number}
use Rattle.tokens.specs.Walk.{Walked, ok, bad, counted_of, walk_at}
use Rattle.tokens.specs.declared.Flags.{Flags}
use Rattle.tokens.specs.declared.Token.{Token}
use Rattle.sheet.specs.Sheet.{words_per_token, words_of, mark_of, marks_of, read_at}
use Rattle.sheet.proofs.Laying.{all_read, few_tokens, noted, word_count}
use Rattle.body.specs.Verdict.{Verdict, a_body, Judged, unread, read, deepest, Both, both, sheet_of, both_with, both_of, both_answer, both_left, Answered}
use Rattle.body.specs.Verdict as verdict
use Rattle.body.specs.Reader.{Out, accepted, refused, begin, outcome, words_from, verdict_of, verdict_on, WalkNoted}
use Rattle.body.proofs.Agree.{read_body, words_length}
use Rattle.body.proofs.Refusing.{refuses_right}

-- the reader comes to the grammar's verdict
pub verdict_right : (t : List ℕ) → Verdict t (verdict_on t)
verdict_right t = by_outcome (outcome true 64 begin 0 t) refl
  where
    by_outcome : (x : Out) → outcome true 64 begin 0 t ≡ x → Verdict t (verdict_of x (words_from true 64 begin 0 t))
    by_outcome accepted e = a_body (words_from true 64 begin 0 t) (read_body true 64 t e)
    by_outcome (refused k p) e = verdict.refused k p (refuses_right t k p e)

-- a walk that is refused
pub walk_bad : (w : Walked) (lent : Both) (k p : ℕ) → w ≡ bad k p → Answered lent lent w (refuses k p)
walk_bad w lent k p e =
    record { verdict = refuses k p; judged = subst (λ (v : Walked). Judged v (refuses k p)) (sym e) (unread k p); answer = refl; buffers = refl }

pub walk_refused : (w : Walked) (lent : Both) (k p : ℕ) → counted_of w ≡ refuses k p → Answered lent lent w (refuses k p)
walk_refused (ok l) lent k p e = let z : ◌≡◌ {A = ℕ} 0 1 = cc in absurd (omega arith)
walk_refused (bad m q) lent k p e = subst (Answered lent lent (bad m q)) e (walk_bad (bad m q) lent m q refl)

-- the front of a buffer is no longer than the buffer
pub front_short : (n m : ℕ) (marks : List ℕ) → length marks ≤ m → length (take n marks) ≤ m
front_short n m marks h = omega (arith, length-take n marks)

-- the rooms, the sheet's first: both have it, the sheet has none, the table has none
module _ (words lent : Both) where
  pub both_laid : length words.sheet ≤ length lent.sheet → length words.table ≤ length lent.table
      → (gives (length words.table) ≡ both_answer (gives words) lent)
      × (both (laid words.sheet lent.sheet) (laid words.table lent.table) ≡ both_left (gives words) lent)
  both_laid h k =
      let a = le-leb (length words.sheet) (length lent.sheet) h in
      let b = le-leb (length words.table) (length lent.table) k in
      (rw (a, b), rw (a, b))

  pub no_sheet : length lent.sheet < length words.sheet
      → (refuses no_room_number (length words.sheet) ≡ both_answer (gives words) lent) × (lent ≡ both_left (gives words) lent)
  no_sheet h = let a = lt-leb (length words.sheet) (length lent.sheet) h in (rw a, rw a)

  pub no_table : length words.sheet ≤ length lent.sheet → length lent.table < length words.table
      → (refuses no_room_number (length words.table) ≡ both_answer (gives words) lent) × (lent ≡ both_left (gives words) lent)
  no_table h k =
      let a = le-leb (length words.sheet) (length lent.sheet) h in
      let b = lt-leb (length words.table) (length lent.table) k in
      (rw (a, b), rw (a, b))

-- what the reader says of marks, beside a sheet's words: a body, or a refusal by the grammar
module _ (words marks : List ℕ) where
  pub accepted_both : (taken : List ℕ) → outcome true deepest begin 0 marks ≡ accepted → taken ≡ words_from true deepest begin 0 marks
      → gives (both words taken) ≡ both_with words (verdict_on marks)
  accepted_both taken a e =
      let v : gives (words_from true deepest begin 0 marks) ≡ verdict_on marks = sym (ap (λ (o : Out). verdict_of o (words_from true deepest begin 0 marks)) a) in
      ap (λ (x : List ℕ). gives (both words x)) e ∙ ap (both_with words) v

  pub refused_both : (k p : ℕ) → outcome true deepest begin 0 marks ≡ refused k p → refuses k p ≡ both_with words (verdict_on marks)
  refused_both k p e =
      let v : refuses k p ≡ verdict_on marks = sym (ap (λ (o : Out). verdict_of o (words_from true deepest begin 0 marks)) e) in
      ap (both_with words) v

-- a walk that was read, with its marks
pub walk_read : (w : Walked) (l : List Token) (marks : List ℕ) (lent left : Both) (o : Result ℕ) → w ≡ ok l → marks ≡ marks_of l
    → o ≡ both_answer (both_of w (verdict_on marks)) lent → left ≡ both_left (both_of w (verdict_on marks)) lent → Answered lent left w o
walk_read w l marks lent left o a q e f =
    let r = read l (verdict_on marks) (subst (λ (t : List ℕ). Verdict t (verdict_on marks)) q (verdict_right marks)) in
    record { verdict = verdict_on marks; judged = subst (λ (v : Walked). Judged v (verdict_on marks)) (sym a) r; answer = e; buffers = f }

-- a walk of n tokens whose marks and words were noted, with room for them
module _ (s : List ℕ) (end : ℕ) (f : Flags) (start n : ℕ) (c : counted_of (walk_at s end f start) ≡ gives n) where
  pub walk_noted : (marks marks' : List ℕ) → marks' ≡ sets marks 0 (marks_of (read_at s end f start)) → n ≤ length marks'
      → WalkNoted s end f start (take n marks')
  walk_noted marks marks' m h = (c ∙ ap gives (sym (length-take-le n marks' h)), noted s end f start n c mark_of marks marks' m h)

  -- no walk of a stream has more tokens than that
  pub few_marks : start ≤ length s → length s ≤ 65536 → n ≤ 65536
  few_marks h k = omega (arith, (few_tokens s end f start n c).0)

-- the answer for the marks of such a walk, and what is left
module _ (s : List ℕ) (end : ℕ) (f : Flags) (start : ℕ) (marks : List ℕ) (h : WalkNoted s end f start marks) where
  abbrev owners : List ℕ
  owners = words_from true deepest begin 0 marks

  abbrev sheet_words : List ℕ
  sheet_words = words_of (read_at s end f start)

  answered : (lent left : Both) (o : Result ℕ) → o ≡ both_answer (both_of (walk_at s end f start) (verdict_on marks)) lent
      → left ≡ both_left (both_of (walk_at s end f start) (verdict_on marks)) lent → Answered lent left (walk_at s end f start) o
  answered lent left o e g =
      let y = all_read s end f start (length marks) h.0 in
      walk_read (walk_at s end f start) y.0 marks lent left o y.1.0 (h.1 ∙ ap marks_of y.1.1) e g

  -- by its words, where these were noted too
  pub noted_answered : (words : List ℕ) (lent left : Both) (o : Result ℕ) → words ≡ sheet_words → o ≡ both_answer (both_with words (verdict_on marks)) lent
      → left ≡ both_left (both_with words (verdict_on marks)) lent → Answered lent left (walk_at s end f start) o
  noted_answered words lent left o w e g =
      let y = all_read s end f start (length marks) h.0 in
      let q : words ≡ sheet_of (walk_at s end f start) = w ∙ ap words_of y.1.1 ∙ ap sheet_of (sym y.1.0) in
      answered lent left o (e ∙ ap (λ (x : List ℕ). both_answer (both_with x (verdict_on marks)) lent) q)
      (g ∙ ap (λ (x : List ℕ). both_left (both_with x (verdict_on marks)) lent) q)

  -- a refusal by the grammar
  pub no_body_answered : (lent : Both) (k p : ℕ) → outcome true deepest begin 0 marks ≡ refused k p → Answered lent lent (walk_at s end f start) (refuses k p)
  no_body_answered lent k p e =
      let v = refused_both (sheet_of (walk_at s end f start)) marks k p e in
      answered lent lent (refuses k p) (ap (λ (x : Result Both). both_answer x lent) v) (ap (λ (x : Result Both). both_left x lent) v)

  module _ (a : outcome true deepest begin 0 marks ≡ accepted) (sheet table : List ℕ) where
    -- a body's words
    body_words : gives (both sheet_words owners) ≡ both_of (walk_at s end f start) (verdict_on marks)
    body_words =
        let y = all_read s end f start (length marks) h.0 in
        ap (λ (l : List Token). gives (both (words_of l) owners)) y.1.1 ∙ ap (λ (w : Walked). both_of w (gives owners)) (sym y.1.0)
        ∙ accepted_both (sheet_of (walk_at s end f start)) marks owners a refl

    body_answered : (left : Both) (o : Result ℕ) → o ≡ both_answer (gives (both sheet_words owners)) (both sheet table)
        → left ≡ both_left (gives (both sheet_words owners)) (both sheet table) → Answered (both sheet table) left (walk_at s end f start) o
    body_answered left o e g =
        answered (both sheet table) left o (e ∙ ap (λ (x : Result Both). both_answer x (both sheet table)) body_words)
        (g ∙ ap (λ (x : Result Both). both_left x (both sheet table)) body_words)

    owners_count : length owners ≡ length marks
    owners_count = words_length true deepest marks begin 0 a

    sheet_count : length sheet_words ≡ length marks * words_per_token
    sheet_count = word_count s end f start (length marks) h.0

    pub sheet_short : length sheet < length marks * words_per_token
        → Answered (both sheet table) (both sheet table) (walk_at s end f start) (refuses no_room_number (length marks * words_per_token))
    sheet_short k =
        let x = no_sheet (both sheet_words owners) (both sheet table) (omega (arith, sheet_count)) in
        body_answered (both sheet table) (refuses no_room_number (length marks * words_per_token)) (ap (refuses no_room_number) (sym sheet_count) ∙ x.0) x.1

    pub table_short : length marks * words_per_token ≤ length sheet → length table < length marks
        → Answered (both sheet table) (both sheet table) (walk_at s end f start) (refuses no_room_number (length marks))
    table_short k m =
        let x = no_table (both sheet_words owners) (both sheet table) (omega (arith, sheet_count)) (omega (arith, owners_count)) in
        body_answered (both sheet table) (refuses no_room_number (length marks)) (ap (refuses no_room_number) (sym owners_count) ∙ x.0) x.1

    pub both_filled : (left left' : List ℕ) → length marks * words_per_token ≤ length sheet → length marks ≤ length table → left ≡ laid sheet_words sheet
        → left' ≡ laid owners table → Answered (both sheet table) (both left left') (walk_at s end f start) (gives (length marks))
    both_filled left left' k m e g =
        let x = both_laid (both sheet_words owners) (both sheet table) (omega (arith, sheet_count)) (omega (arith, owners_count)) in
        body_answered (both left left') (gives (length marks)) (ap gives (sym owners_count) ∙ x.0) ((λ i. both (e i) (g i)) ∙ x.1)

-- the verdict on a walk, computed; so there is an answer for every walk, every sheet and every table
abbrev pub verdict_at : Walked → Result (List ℕ)
verdict_at (ok l) = verdict_on (marks_of l)
verdict_at (bad k p) = refuses k p

judged_right : (w : Walked) → Judged w (verdict_at w)
judged_right (ok l) = read l (verdict_on (marks_of l)) (verdict_right (marks_of l))
judged_right (bad k p) = unread k p

abbrev pub answer_of : Walked → Both → Result ℕ
answer_of w lent = both_answer (both_of w (verdict_at w)) lent

abbrev pub left_of : Walked → Both → Both
left_of w lent = both_left (both_of w (verdict_at w)) lent

pub answer_holds : (w : Walked) (lent : Both) → Answered lent (left_of w lent) w (answer_of w lent)
answer_holds w lent = record { verdict = verdict_at w; judged = judged_right w; answer = refl; buffers = refl }

-- what is counted has room in both
pub counted_room : (words lent : Both) (n : ℕ) → both_answer (gives words) lent ≡ gives n
    → (length words.sheet ≤ length lent.sheet) × (length words.table ≤ length lent.table) × (length words.table ≡ n)
counted_room words lent n e =
    elim (dec_lt (length lent.sheet) (length words.sheet)) [
      | yes h ↦ not_counted (length words.sheet) n ((no_sheet words lent h).0 ∙ e)
      | no h ↦
          elim (dec_lt (length lent.table) (length words.table)) [
            | yes k ↦ not_counted (length words.table) n ((no_table words lent (omega arith) k).0 ∙ e)
            | no k ↦
                let x : gives (length words.table) ≡ gives n = (both_laid words lent (omega arith) (omega arith)).0 ∙ e in
                (omega arith, omega arith, cc)
          ]
    ]
  where
    not_counted : {A : Type 0} (m n : ℕ) → refuses no_room_number m ≡ gives n → A
    not_counted m n e = let z : ◌≡◌ {A = ℕ} 0 1 = cc in absurd (omega arith)

-- so a table has a word for each token that is counted
pub counted_fits : (lent left : Both) (w : Walked) (o : Result ℕ) (n : ℕ) → Answered lent left w o → o ≡ gives n → n ≤ length lent.table
counted_fits lent left w o n x e = by_verdict x.verdict (sym x.answer ∙ e)
  where
    by_verdict : (v : Result (List ℕ)) → both_answer (both_of w v) lent ≡ gives n → n ≤ length lent.table
    by_verdict (gives ws) e =
        let y = counted_room (both (sheet_of w) ws) lent n e in
        omega (arith, y.1, y.2)
    by_verdict (refuses k p) e = let z : ◌≡◌ {A = ℕ} 0 1 = cc in absurd (omega arith)
