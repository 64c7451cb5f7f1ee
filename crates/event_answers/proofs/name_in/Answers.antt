-- `name_in` meets its contract. Assumes nothing.
use mathlib.Core.Path.{ap, ◌∙◌}
use mathlib.Core.Bool.{Bool}
use Rattle.doortumble.specs.Calls.{flag_of}
use mathlib.Core.List.{◌++◌}
use Rattle.print.proofs.Putting.{◌▸◌, put_as}
use Rattle.stream_answers.specs.Modes.{answer_text, words_text}
use Rattle.event_answers.specs.Called.{name_text}
use Rattle.event_answers.proofs.Flag.{flag_back}
use borrow.Author.Rules.{rules}
use Rattle.event_answers.proofs.name_in.Goals as goal

pub returns : goal.returns
returns c =
    let a = c.args in
    let d = c.doortumble_name-r in
    put_as
    ((λ i. answer_text (d.ensures.value i) ++ words_text (d.ensures.word_after i)) ∙ ap (λ (b : Bool). name_text a.s.now a.offset b a.words.now) (ap flag_of c.from.ensures ∙ flag_back a.inline))
    (c.said-end.ensures ▸ c.words_line.ensures)
