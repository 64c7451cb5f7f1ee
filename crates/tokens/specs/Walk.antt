-- The walk: a turn, a step and the list of tokens. Document 01, "Token walk".
use Rattle.std.specs.Prelude as Std
use Rattle.std.specs.Prelude.{Ok, Err, Some, None, Option}
use Rattle.cursor.specs.declared.Cursor.{Cursor}
use Rattle.cursor.specs.declared.Refusal.{Refusal}
use Rattle.std.specs.Prelude.{List, [], ◌∷◌, ℕ, zero, suc, ◌+◌, ◌-◌, eqb, leb, ltb, length}
use Rattle.cursor.specs.Answer.{Answer, given, refused, Result, gives, refuses, ◌then◌, pick}
use Rattle.cursor.specs.Answers.{refusal}
use Rattle.cursor.specs.Reads.{number_at}
use Rattle.cursor.specs.Refusals.{wrong_length, past_end}
use Rattle.tokens.specs.Table.{gist_at}
use Rattle.tokens.specs.declared.Flags.{Flags}
use Rattle.tokens.specs.declared.plain.Gist.{Gist}
use Rattle.tokens.specs.declared.Token.{Token}

-- what the walk meets: a token to hand on, a fragment header, or its end
pub data Met : Type 0 where
  handed : Token → Met
  header : Met
  over : Met

abbrev pub step_answer : Std.Result (Option Token × Cursor) Refusal → Answer Met
step_answer (Ok (Some t, c)) = given (handed t) c.at
step_answer (Ok (None, c)) = given over c.at
step_answer (Err r) = refusal r

-- "Place is the token byte's offset; length runs from there to where the walk reads on, be it a 0F or 00."
abbrev pub token_of : ℕ → Gist → ℕ → Token
token_of place g next =
    record {
      kind = g.kind;
      place = place;
      len = next - place;
      number = g.number;
      flag = g.flag;
      announced = g.announced;
      name = g.name;
      held = g.held;
    }

-- "0F takes three bytes, each a read of its own"
abbrev pub header_at : List ℕ → ℕ → Answer Unit
header_at s at =
    number_at s at 1 then λ _ at.
    number_at s at 1 then λ _ at.
    number_at s at 1 then λ _ at.
    given tt at

-- "Tokens are read while the position is below start plus length; the last may run over. Byte 00 ends the walk"
unfoldable pub turn_at : List ℕ → ℕ → Flags → ℕ → Answer Met
turn_at s end f place =
    pick (ltb place end)
    (number_at s place 1 then λ b at.
    pick (eqb b 0x00) (given over at)
    (pick (eqb b 0x0F) (header_at s at then λ _ at. given header at)
    (gist_at s f b at then λ g at. given (handed (token_of place g at)) at)))
    (given over place)

-- "neither is handed on": after a header the walk goes on
abbrev pub onward : Answer Met → (ℕ → Answer Met) → Answer Met
onward (given (handed t) next) go = given (handed t) next
onward (given header next) go = go next
onward (given over next) go = given over next
onward (refused k p) go = refused k p

unfoldable pub step_from : ℕ → List ℕ → ℕ → Flags → ℕ → Answer Met
step_from zero s end f at = given over at
step_from (suc turns) s end f at = onward (turn_at s end f at) (step_from turns s end f)

-- each header takes four bytes, so that there are fewer turns than bytes left and one
abbrev pub step_at : List ℕ → ℕ → Flags → ℕ → Answer Met
step_at s end f at = step_from (suc (length s - at)) s end f at

-- a walk: its tokens, or its first refusal
pub data Walked : Type 0 where
  ok : List Token → Walked
  bad : ℕ → ℕ → Walked

abbrev pub before : Token → Walked → Walked
before t (ok l) = ok (t ∷ l)
before t (bad k p) = bad k p

abbrev pub after : Answer Met → (ℕ → Walked) → Walked
after (given (handed t) next) go = before t (go next)
after (given header next) go = ok []
after (given over next) go = ok []
after (refused k p) go = bad k p

unfoldable pub walk_from : ℕ → List ℕ → ℕ → Flags → ℕ → Walked
walk_from zero s end f at = ok []
walk_from (suc steps) s end f at = after (step_at s end f at) (walk_from steps s end f)

-- each token has a byte, so that there are fewer steps than bytes left and one
abbrev pub walk_at : List ℕ → ℕ → Flags → ℕ → Walked
walk_at s end f at = walk_from (suc (length s - at)) s end f at

-- Where a walk reads: from where on, and up to where a token may begin. "stream longer than that" (65,536 bytes): 1 at 0. "Start beyond the
-- stream: 2." "Order: 1; then the walk's, first met"
abbrev pub window_of : List ℕ → ℕ → ℕ → Result (ℕ × ℕ)
window_of s start len =
    pick (leb (length s) 65536) (pick (leb start (length s)) (gives (start, start + len)) (refuses past_end start)) (refuses wrong_length 0)

abbrev pub window_answer : Std.Result (ℕ × ℕ) Refusal → Result (ℕ × ℕ)
window_answer (Ok (start, end)) = gives (start, end)
window_answer (Err r) = refuses r.number r.place

-- the walk of a stream, from its window
abbrev pub walk_in : List ℕ → Flags → Result (ℕ × ℕ) → Walked
walk_in s f (gives (start, end)) = walk_at s end f start
walk_in s f (refuses k p) = bad k p

unfoldable pub walk_of : List ℕ → ℕ → ℕ → Flags → Walked
walk_of s start len f = walk_in s f (window_of s start len)

-- how many tokens there are
abbrev pub counted_of : Walked → Result ℕ
counted_of (ok l) = gives (length l)
counted_of (bad k p) = refuses k p
