-- `doortumble_merge` meets its contract. Assumes nothing.
use mathlib.Core.Path.{subst}
use Rattle.cursor.specs.Answers.{count_answer}
use Rattle.merge.specs.Select.{Merges}
use Rattle.merge.specs.declared.Rule.{Rule}
use Rattle.merge_call.proofs.doortumble_merge.Goals as goal

pub returns : goal.returns
returns c =
    let a = c.args in
    let m = c.merge in
    (count_answer m.result, (c.packed.ensures, subst (λ (r : Rule). Merges a.primary.now a.other.now r a.res.now m.new.res (count_answer m.result)) c.rule.ensures m.ensures))
