-- `doortumble_bodies` meets its contract. Assumes nothing.
use mathlib.Core.Path.{subst}
use Rattle.cursor.specs.Answers.{count_answer}
use Rattle.tokens.specs.declared.Flags.{Flags}
use Rattle.body.specs.Verdict.{both}
use Rattle.nest.specs.Nested.{Nested}
use Rattle.nest_call.proofs.doortumble_bodies.Goals as goal

pub returns : goal.returns
returns c =
    let a = c.args in
    let o = c.fill in
    let answered : Flags → Type 0 = λ f. Nested a.stream.now a.start a.length f (both a.sheet.now a.table.now) (both o.new.sheet o.new.table) (count_answer o.result) in
    (count_answer o.result, (c.packed.ensures, subst answered c.flags-by.ensures o.ensures))
