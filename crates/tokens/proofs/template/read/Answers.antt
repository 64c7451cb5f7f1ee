-- `read` meets its contract: the head, and the values after it. Assumes nothing.
use mathlib.Core.Path.{sym, ap, subst, ◌∙◌}
use lib.ListN.{length}
use Rattle.cursor.specs.Answers.{read_answer}
use Rattle.tokens.proofs.Runs.{TableStands, head_stands}
use Rattle.tokens.proofs.template.read.Goals as goal

pub values-requires : goal.values-requires
values-requires c =
    let a = c.args in
    subst (TableStands (length a.s.now)) (sym c.head.ensures ∙ ap read_answer c.in_ok-i.was) (head_stands a.s.now a.c.at)
