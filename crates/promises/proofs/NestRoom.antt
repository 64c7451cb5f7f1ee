-- With room, the call accepts exactly when every window is in order. Assumes nothing.
use mathlib.Core.Path.{◌≡◌, refl, sym, ap, ◌∙◌}
use mathlib.Core.Bool.{Bool}
use mathlib.Core.List.{List}
use Prim.Native.Nat.{ℕ, ◌≤◌}
use native.Mathlib.Omega.{arith}
use borrow.Author.Tests.{le-leb}
use lib.Dec.{leb}
use lib.ListN.{length, length-map}
use Rattle.cursor.specs.Answer.{Result, gives, refuses, pick}
use Rattle.cursor.specs.Lent.{lent_answer}
use Rattle.cursor.specs.Refusals.{no_room_number}
use Rattle.cursor.proofs.Choice.{either}
use Rattle.tokens.specs.declared.Flags.{Flags}
use Rattle.body.specs.Reader.{verdict_on}
use Rattle.body.proofs.Answers.{verdict_right}
use Rattle.body.specs.Verdict.{Both, both, followed, both_answer, written_by, both_left}
use Rattle.nest.specs.Nested.{Entry, nested_of, sheet_of, owners_of, both_words}
use Rattle.promises.specs.NestWindows.{Accepted, CallAccepts}
use Rattle.promises.proofs.NestComplete.{exactly_when}

not_both_ways : {A B : Type 0} (n : B) (k p : ℕ) → ◌≡◌ {A = Result B} (refuses k p) (gives n) → A
not_both_ways n k p e = let z : ◌≡◌ {A = ℕ} 0 1 = cc in absurd (omega arith)

given_same : (m n : ℕ) → gives m ≡ gives n → n ≡ m
given_same m n e = cc

-- words that have room, and a count that was answered
roomy : (words lent : List ℕ) → length words ≤ length lent → lent_answer (gives words) lent ≡ gives (length words)
roomy words lent h = ap (λ (b : Bool). pick b (gives (length words)) (refuses no_room_number (length words))) (le-leb (length words) (length lent) h)

both_roomy : (w lent : Both) → length w.sheet ≤ length lent.sheet → length w.table ≤ length lent.table
    → both_answer (gives w) lent ≡ gives (length w.table)
both_roomy w lent h k =
    ap (λ (x : Result ℕ). followed x (lent_answer (gives w.table) lent.table)) (roomy w.sheet lent.sheet h) ∙ roomy w.table lent.table k

counts : (w lent : Both) (m : ℕ) → both_answer (gives w) lent ≡ gives m → m ≡ length w.table
counts w lent m =
    let n = length w.sheet in
    let k = length w.table in
    either (λ (x : Result ℕ). followed x (lent_answer (gives w.table) lent.table) ≡ gives m → m ≡ k) (leb n (length lent.sheet)) _ _
    (λ h. either (λ (x : Result ℕ). x ≡ gives m → m ≡ k) (leb k (length lent.table)) _ _ (λ g e. given_same k m e) (λ g e. not_both_ways m no_room_number k e))
    (λ h e. not_both_ways m no_room_number n e)

by_result : (s : List ℕ) (start len : ℕ) (f : Flags) (lent : Both) (m : ℕ) (x : Result (List Entry)) → nested_of verdict_on s start len f ≡ x
    → both_answer (both_words x) lent ≡ gives m → (l : List Entry) × (Accepted s start len f l × (m ≡ length l))
by_result s start len f lent m (gives l) e q =
    (l, ((exactly_when verdict_on verdict_right s start len f l).0 e, counts (both (sheet_of l) (owners_of l)) lent m q ∙ length-map l (λ e. e.word)))
by_result s start len f lent m (refuses k p) e q = not_both_ways m k p q

-- "With room, the call accepts exactly when"
pub call_accepts : CallAccepts
call_accepts s start len f lent left o x =
    let a = x verdict_on verdict_right in
    record {
      accepts = λ l y room.
          let e = (exactly_when verdict_on verdict_right s start len f l).1 y in
          let w = both (sheet_of l) (owners_of l) in
          let b = both_roomy w lent room.0 room.1 in (
            a.0 ∙ ap (λ (z : Result (List Entry)). both_answer (both_words z) lent) e ∙ b ∙ ap gives (length-map l (λ e. e.word)),
            a.1 ∙ ap (λ (z : Result (List Entry)). both_left (both_words z) lent) e ∙ ap (λ (z : Result ℕ). written_by z w lent) b,
          );
      only_accepted = λ m e. by_result s start len f lent m (nested_of verdict_on s start len f) refl (sym a.0 ∙ e);
    }
