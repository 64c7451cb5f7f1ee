-- `doortumble_event` meets its contract. Assumes nothing.
use Rattle.cursor.specs.Answers.{count_answer}
use Rattle.event_call.proofs.doortumble_event.Goals as goal

pub returns : goal.returns
returns c =
    let o = c.fill in
    (count_answer o.result, (c.packed.ensures, o.ensures))
