-- The contract of what an event says allows one answer with its rows. Assumes nothing.
use mathlib.Core.Path.{◌≡◌, sym, ap, ◌∙◌}
use mathlib.Core.Bool.{Bool}
use mathlib.Core.List.{List}
use Prim.Native.Nat.{ℕ}
use Rattle.cursor.specs.Answer.{Result}
use Rattle.cursor.specs.Lent.{lent_left}
use Rattle.body.specs.Reader.{verdict_on}
use Rattle.body.proofs.Answers.{verdict_right}
use Rattle.event.specs.Event.{event_of, event_answer, Events}
use Rattle.promises.specs.EventRows.{OneEvent, SomeEvent}
use Rattle.promises.proofs.NestOne.{judges_same}

pub one_event : OneEvent
one_event s start len inline lent left left' o o' x y =
    let a = x verdict_on verdict_right in
    let b = y verdict_on verdict_right in
    (a.0 ∙ sym b.0, a.1 ∙ sym b.1)

-- what the reader's verdict gives is what every judge gives
pub by_reader : (s : List ℕ) (start len : ℕ) (inline : Bool) (lent : List ℕ)
    → Events s start len inline lent (lent_left (event_of verdict_on s inline start len) lent) (event_answer (event_of verdict_on s inline start len) lent)
by_reader s start len inline lent judge says =
    let e = ap (λ (j : List ℕ → Result (List ℕ)). event_of j s inline start len) (judges_same verdict_on judge verdict_right says) in
    (ap (λ (x : Result (List ℕ)). event_answer x lent) e, ap (λ (x : Result (List ℕ)). lent_left x lent) e)

pub some_event : SomeEvent
some_event s start len inline lent =
    (event_answer (event_of verdict_on s inline start len) lent, (lent_left (event_of verdict_on s inline start len) lent, by_reader s start len inline lent))
