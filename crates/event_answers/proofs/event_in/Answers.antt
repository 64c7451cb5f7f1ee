-- `event_in` meets its contract. Assumes nothing.
use mathlib.Core.Path.{refl, subst, ap, ◌∙◌}
use Rattle.doortumble.specs.Calls.{flag_of}
use mathlib.Core.Bool.{Bool}
use Rattle.event_call.specs.Calls.{EventPacked}
use Rattle.print.proofs.Putting.{◌▸◌}
use Rattle.event_answers.proofs.Flag.{flag_back}
use borrow.Author.Rules.{rules}
use Rattle.event_answers.proofs.event_in.Goals as goal

pub returns : goal.returns
returns c =
    let a = c.args in
    let d = c.doortumble_event-r in
    let left = d.new.rows in
    record {
      text = _;
      allowed = record {
        word = d.result;
        left = left;
        packed = subst (λ (b : Bool). EventPacked a.s.now a.start a.length b a.words.now left d.result) (ap flag_of c.from.ensures ∙ flag_back a.inline) d.ensures;
        is = refl;
      };
      puts = c.said-end.ensures ▸ c.words_line.ensures;
    }
