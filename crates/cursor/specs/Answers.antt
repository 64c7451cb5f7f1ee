-- Each answer in document 01's terms: what was read and the next position, or the refusal's number and place.
use Rattle.std.specs.Prelude.{ℕ, Ok, Err}
use Rattle.std.specs.Prelude as Std
use Rattle.cursor.specs.Answer.{Answer, given, refused, Result, gives, refuses}
use Rattle.cursor.specs.declared.Cursor.{Cursor}
use Rattle.cursor.specs.declared.Refusal.{Refusal}

abbrev pub refusal_of : ℕ → ℕ → Refusal
refusal_of number place = record { number = number; place = place }

abbrev pub refusal : {A : Type 0} → Refusal → Answer A
refusal r = refused r.number r.place

-- what was read, and where the next cursor stands
abbrev pub read_answer : {A : Type 0} → Std.Result (A × Cursor) Refusal → Answer A
read_answer (Ok (x, c)) = given x c.at
read_answer (Err r) = refusal r

abbrev pub moved_answer : Std.Result Cursor Refusal → Answer Unit
moved_answer (Ok c) = given tt c.at
moved_answer (Err r) = refusal r

-- a count, or the refusal's number and place
abbrev pub count_answer : Std.Result ℕ Refusal → Result ℕ
count_answer (Ok n) = gives n
count_answer (Err r) = refuses r.number r.place
