-- What soundness says, and what does not depend on it. Document 02, P7.
use Rattle.std.specs.Prelude.{◌≡◌, Bool, false, List, map, ℕ, suc, get_or}
use Rattle.cursor.specs.Answer.{Answer, given, refused, Result}
use Rattle.cursor.specs.Reads.{part_of}
use Rattle.cursor.specs.Text.{units_of, high_surrogate, low_surrogate, well_formed}
use Rattle.cursor.specs.declared.View.{View}
use Rattle.name.specs.declared.Name.{Name}
use Rattle.name.specs.declared.Soundness.{Soundness}
use Rattle.value.specs.declared.Content.{Content}
use Rattle.value.specs.declared.Content.TheVariants as C
use Rattle.value.specs.declared.Value.{Value}
use Rattle.tokens.specs.Walk.{Walked, ok, bad}
use Rattle.tokens.specs.declared.Held.{Held}
use Rattle.tokens.specs.declared.Held.TheVariants as H
use Rattle.tokens.specs.declared.Token.{Token}
use Rattle.sheet.specs.Sheet.{sheet_answer, sheet_words}
use Rattle.body.specs.Verdict.{Both, Answered}

-- "each high surrogate followed by a low one, no low one alone", place by place: a unit is a low surrogate exactly where the one before it is
-- a high one. Past the end stands 0, which is neither, so that none may be high at the end
pub record Paired (us : List ℕ) : Type 0 where
  pub first : low_surrogate (get_or us 0 0) ≡ false
  pub next : (i : ℕ) → low_surrogate (get_or us (suc i) 0) ≡ high_surrogate (get_or us i 0)

-- what a view says of itself is true of the bytes that it hands out
abbrev pub ViewTold : List ℕ → Answer View → Type 0
ViewTold s (given v next) = v.sound ≡ well_formed (units_of (part_of s v.part))
ViewTold s (refused k p) = Unit {0}

-- a token of whose text something else is said, everything beside it being as it was
abbrev pub view_as : Bool → View → View
view_as sound v = record { part = v.part; sound = sound }

abbrev pub name_as : Soundness → Name → Name
name_as soundness n = record { offset = n.offset; units = n.units; count = n.count; soundness = soundness }

abbrev pub content_as : Bool → Content → Content
content_as sound C.Nothing = C.Nothing
content_as sound (C.Text v) = C.Text (view_as sound v)
content_as sound (C.Number p) = C.Number p
content_as sound (C.Bytes p) = C.Bytes p

abbrev pub value_as : Bool → Value → Value
value_as sound v = record { code = v.code; start = v.start; content = content_as sound v.content }

abbrev pub held_as : Bool → Soundness → Held → Held
held_as sound soundness H.Nothing = H.Nothing
held_as sound soundness (H.Name n) = H.Name (name_as soundness n)
held_as sound soundness (H.Text v) = H.Text (view_as sound v)
held_as sound soundness (H.Value v) = H.Value (value_as sound v)
held_as sound soundness (H.Instance i) = H.Instance i

abbrev pub token_as : Bool → Soundness → Token → Token
token_as sound soundness t =
    record {
      kind = t.kind;
      place = t.place;
      len = t.len;
      number = t.number;
      flag = t.flag;
      announced = t.announced;
      name = t.name;
      held = held_as sound soundness t.held;
    }

-- a walk of whose texts and names something else is said, token by token
abbrev pub walk_as : (Token → Bool) → (Token → Soundness) → Walked → Walked
walk_as sound soundness (ok l) = ok (map (λ t. token_as (sound t) (soundness t) t) l)
walk_as sound soundness (bad k p) = bad k p

-- two walks with one answer, one sheet and one owner table on any lent words, refusals and their places included
pub record SameSheet (v w : Walked) : Type 0 where
  pub answer : (lent : List ℕ) → sheet_answer v lent ≡ sheet_answer w lent
  pub words : (lent : List ℕ) → sheet_words v lent ≡ sheet_words w lent
  pub body : (lent left : Both) (o : Result ℕ) → Answered lent left v o → Answered lent left w o
  pub body_too : (lent left : Both) (o : Result ℕ) → Answered lent left w o → Answered lent left v o
