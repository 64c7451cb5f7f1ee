-- The sample of an event is accepted with its rows: computed on the definitions that the contract cites. Assumes nothing.
use mathlib.Core.Path.{◌≡◌, refl, subst}
use mathlib.Core.Bool.{false}
use mathlib.Core.List.{List}
use Prim.Native.Nat.{ℕ}
use lib.ListN.{length}
use Rattle.cursor.specs.Answer.{Result, gives}
use Rattle.cursor.specs.Lent.{lent_left}
use Rattle.cursor.specs.Reads.{little}
use Rattle.value.specs.Kinds.{among, known_code, width_of}
use Rattle.value.specs.Scalar.{bits_of, unsigned_of, decoded_of}
use Rattle.value.specs.Value.{sized_at}
use Rattle.tokens.specs.Instance.{table_at}
use Rattle.tokens.specs.Table.{gist_at}
use Rattle.tokens.specs.Walk.{turn_at, step_from, walk_from}
use Rattle.body.specs.Grammar.{kind_of}
use Rattle.body.specs.Reader.{opening, turn, ended, outcome, words_from, verdict_on}
use Rattle.nest.specs.Nested.{values_from, nest_from, body_at}
use Rattle.event.specs.Event.{value_from, rows_from, root_from, spans_from, bodies_at, rows_of, event_of, event_answer, Events}
use Rattle.promises.specs.EventSample.{event, rows, lent, TwoRows}
use Rattle.promises.proofs.EventOne.{by_reader}

computed : event_of verdict_on event false 0 (length event) ≡ gives rows
unfolding little among known_code width_of sized_at table_at gist_at turn_at step_from walk_from kind_of opening turn ended outcome words_from values_from nest_from body_at value_from rows_from root_from spans_from bodies_at rows_of bits_of unsigned_of decoded_of
computed = refl

pub two_rows : TwoRows
two_rows =
    subst (λ (r : Result (List ℕ)). Events event 0 (length event) false lent (lent_left r lent) (event_answer r lent)) computed
    (by_reader event 0 (length event) false lent)
