-- `body_in` meets its contract. Assumes nothing.
use borrow.Author.Rules.{rules}
use mathlib.Core.Path.{refl, subst}
use Rattle.tokens.specs.Walk.{walk_of}
use Rattle.tokens.specs.declared.Flags.{Flags}
use Rattle.body.specs.Verdict.{both}
use Rattle.doortumble.specs.Calls.{BodyPacked}
use Rattle.print.proofs.Putting.{◌▸◌}
use Rattle.stream_answers.proofs.Lending.{flags_back}
use Rattle.stream_answers.proofs.joined.body_in.Goals as goal

pub returns : goal.returns
returns c =
    let a = c.args in
    let d = c.doortumble_body-r in
    let left = both d.new.sheet d.new.table in
    let packed : Flags → Type 0 = λ f. BodyPacked (walk_of a.s.now a.asked.start a.asked.length f) (both a.sheet.now a.table.now) left d.result in
    record {
      text = _;
      allowed = record { word = d.result; left = left; packed = subst packed (flags_back a.asked.flags) d.ensures; is = refl };
      puts = c.said-end.ensures ▸ c.both_lines.ensures;
    }
