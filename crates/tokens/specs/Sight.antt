-- A turn of the walk that leaves the values of an instance to its caller. Document 02, P9: "judged when its value has been read", so that what
-- a value holds is looked at before the next value is read.
use Rattle.std.specs.Prelude.{Ok, Err, Result}
use Rattle.cursor.specs.declared.Cursor.{Cursor}
use Rattle.cursor.specs.declared.Refusal.{Refusal}
use Rattle.std.specs.Prelude.{Bool, ◌&&◌, List, ℕ, ◌+◌, eqb, ltb}
use Rattle.cursor.specs.Answer.{Answer, given, ◌then◌, pick}
use Rattle.cursor.specs.Answers.{refusal}
use Rattle.cursor.specs.Reads.{number_of}
use Rattle.tokens.specs.Instance.{instance_head_at}
use Rattle.tokens.specs.Walk.{Met, handed, header, over, turn_at}
use Rattle.tokens.specs.declared.Flags.{Flags}
use Rattle.tokens.specs.declared.Instance.{Instance}
use Rattle.tokens.specs.declared.Sight.{Sight}
use Rattle.tokens.specs.declared.Sight.TheVariants as S

-- what such a turn sees: an instance's head with its whole table, or what any turn meets
pub data Seen : Type 0 where
  begun : Instance → Seen
  met : Met → Seen

abbrev pub sight_answer : Result (Sight × Cursor) Refusal → Answer Seen
sight_answer (Ok (S.Token t, c)) = given (met (handed t)) c.at
sight_answer (Ok (S.Instance i, c)) = given (begun i) c.at
sight_answer (Ok (S.Header, c)) = given (met header) c.at
sight_answer (Ok (S.Over, c)) = given (met over) c.at
sight_answer (Err r) = refusal r

-- "0C instance": its byte stands at the position, where a token may begin
abbrev pub instance_there : List ℕ → ℕ → ℕ → Bool
instance_there s end at = ltb at end && eqb (number_of s at 1) 0x0C

-- of an instance "The whole table is read before any value", and no value; else a turn
abbrev pub sight_at : List ℕ → ℕ → Flags → ℕ → Answer Seen
sight_at s end f at =
    pick (instance_there s end at) (instance_head_at s (at + 1) then λ i next. given (begun i) next)
    (turn_at s end f at then λ m next. given (met m) next)
