-- Mode P of docs/ANSWERS.md: one step of the walk from any state.
use Rattle.std.specs.Prelude.{Some, None, Option}
use Rattle.std.specs.Prelude.{◌≡◌, ℕ, Bool, not, List, [], ◌∷◌, ◌++◌, length, drop, ◌==◌, nat_lt}
use Rattle.cursor.specs.Answer.{Maybe, pick}
use Rattle.cursor.specs.Reads.{number_of}
use Rattle.chunk.specs.Walk.{Choose, Reply, Steps}
use Rattle.chunk.specs.declared.Walk.{Walk}
use Rattle.print.specs.Text.{ascii, line_of}
use Rattle.chunk_answers.specs.Item.{step_line}

-- '1 or 0 (a walk position stands or not), the position'; 'other flag words: not 0 counts as 1'
abbrev pub place_of : ℕ → ℕ → Option ℕ
place_of stands position = pick (stands == 0) None (Some position)

-- 'State: five u64, little-endian: 1 or 0 (a walk position stands or not), the position, carve start, carve end, recovery 1 or 0'
abbrev pub state_at : List ℕ → Walk
state_at s =
    record {
      place = place_of (number_of s 0 8) (number_of s 8 8);
      from = number_of s 16 8;
      to = number_of s 24 8;
      recover = not (number_of s 32 8 == 0);
    }

-- the same numbers of a place that came back: a walk that is over has no position, and 0 stands for it
abbrev pub place_numbers : Option ℕ → List ℕ
place_numbers (Some p) = 1 ∷ p ∷ []
place_numbers None = 0 ∷ 0 ∷ []

-- 'then `state` and the five numbers that came back'
abbrev pub state_line : Walk → List ℕ
state_line w = line_of (ascii "state") (place_numbers w.place ++ (w.from ∷ w.to ∷ pick w.recover 1 0 ∷ []))

-- 'One answer line as under W (`done` too), then `state` and the five numbers that came back'
pub record StepLines (s : List ℕ) (w : Walk) (text : List ℕ) : Type 0 where
  pub next : Walk
  pub says : Maybe Reply
  pub steps : Steps s w (next, says)
  pub is : text ≡ step_line s says ++ state_line next

-- 'data is 40 bytes of state and then the chunk'; nothing is put where there are fewer
abbrev pub StepText : List ℕ → List ℕ → Type 0
StepText s text = Choose (nat_lt (length s) 40) (text ≡ []) (StepLines (drop 40 s) (state_at s) text)
