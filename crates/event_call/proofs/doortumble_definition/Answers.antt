-- `doortumble_definition` meets its contract. Assumes nothing.
use mathlib.Core.Path.{ap, ◌∙◌}
use Rattle.doortumble.specs.Calls.{packed_of}
use Rattle.event_call.proofs.doortumble_definition.Goals as goal

pub returns : goal.returns
returns c =
    let o = c.definition_at in record { value = c.packed.ensures ∙ ap packed_of o.ensures.result_value; word_after = o.ensures.word_after }
