-- `called` meets its contract. Assumes nothing.
use mathlib.Core.Path.{refl, subst}
use Rattle.merge.specs.declared.Rule.{Rule}
use Rattle.merge_call.specs.Calls.{MergePacked}
use Rattle.print.proofs.Putting.{◌▸◌}
use Rattle.merge_answers.proofs.Rules.{rule_back}
use Rattle.merge_answers.proofs.called.Goals as goal

pub returns : goal.returns
returns c =
    let a = c.args in
    let d = c.doortumble_merge-r in
    let left = d.new.res in
    record {
      text = _;
      allowed = record {
        word = d.result;
        left = left;
        packed = subst (λ (r : Rule). MergePacked a.primary.now a.other.now r a.words.now left d.result) (rule_back a.newest) d.ensures;
        is = refl;
      };
      puts = c.said-end.ensures ▸ c.words_line.ensures;
    }
