-- Any two answers that a contract allows are equal: what the theorems of the other files say, and the laws that they share.
-- Assumes nothing.
use Rattle.std.specs.Prelude as Std
use Rattle.std.specs.Prelude.{Ok, Err, Some, None, Option}
use Rattle.cursor.specs.declared.Cursor.{Cursor}
use Rattle.cursor.specs.declared.Refusal.{Refusal}
use mathlib.Core.Path.{◌≡◌, refl, sym, ap, ◌∙◌}
use Prim.Native.Nat.{ℕ}
use mathlib.Core.List.{List}
use contract.Lifetimes.{Lfts}
use borrow.Fn.Kinds.{ParamKind, ResultKind, Out, Dens, res_t, ended_of}
use denote.Triple.Clauses.{AtExit}
use Rattle.cursor.specs.Answer.{Answer, given, refused, Result, gives, refuses, Maybe, just, nothing}
use Rattle.cursor.specs.Answers.{read_answer, count_answer}

-- a contract allows one answer: n is the number of lifetimes in the signature
abbrev pub Single : (n : ℕ) (ps : List (ParamKind n)) (r : ResultKind n) → Out n ps r → Type 0
Single n ps r post =
    (κs : Lfts n) (a : Dens κs ps) (x y : (res_t r κs).Denot) (s t : AtExit (ended_of n ps r) κs) → post κs a x s → post κs a y t → x ≡ y

-- a contract that says what the answer is in document 01's terms fixes the answer, where those terms can be read back
pub read_back : {A B : Type 0} (f : A → B) (g : B → A) → ((x : A) → g (f x) ≡ x) → (x y : A) (b : B) → f x ≡ b → f y ≡ b → x ≡ y
read_back f g h x y b p q = sym (h x) ∙ ap g (p ∙ sym q) ∙ h y

-- the readings back: of what was read and where the next cursor stands, of a value alone, of a count, and of what may be missing
abbrev read_of : {A : Type 0} → Answer A → Std.Result (A × Cursor) Refusal
read_of (given x n) = Ok (x, record { at = n })
read_of (refused k p) = Err (record { number = k; place = p })

abbrev pub value_of : {A : Type 0} → Answer A → Std.Result A Refusal
value_of (given x n) = Ok x
value_of (refused k p) = Err (record { number = k; place = p })

abbrev pub counted_of : {A : Type 0} → Result A → Std.Result A Refusal
counted_of (gives x) = Ok x
counted_of (refuses k p) = Err (record { number = k; place = p })

abbrev pub option_of : {A : Type 0} → Maybe A → Option A
option_of (just x) = Some x
option_of nothing = None

-- a read, of whatever is read
pub read_one : {A : Type 0} (x y : Std.Result (A × Cursor) Refusal) (b : Answer A) → read_answer x ≡ b → read_answer y ≡ b → x ≡ y
read_one {A} = read_back read_answer read_of back
  where
    back : (x : Std.Result (A × Cursor) Refusal) → read_of (read_answer x) ≡ x
    back (Ok (v, c)) = refl
    back (Err r) = refl

pub counted_one : (x y : Std.Result ℕ Refusal) (o : Result ℕ) → count_answer x ≡ o → count_answer y ≡ o → x ≡ y
counted_one = read_back count_answer counted_of back
  where
    back : (x : Std.Result ℕ Refusal) → counted_of (count_answer x) ≡ x
    back (Ok n) = refl
    back (Err r) = refl
