-- `whole` meets its contract. Assumes nothing.
use mathlib.Core.Path.{◌∙◌}
use mathlib.Core.List.{[]}
use Rattle.std.proofs.lemmas.Result.{err_from_is_err_and}
use Rattle.body.specs.Reader.{root, inside}
use Rattle.body.proofs.Walking as walking
use Rattle.body.proofs.reader.whole.Goals as goal

pub returns-in_err-at : goal.returns-in_err-at
returns-in_err-at c =
    let first = c.leading in
    let p = err_from_is_err_and c.from_residual.result c.from_residual.ensures.1 in
    rw (p.1, p.2) (walking.resumed _ _ _ root first.result _ first.ensures c.in_err-at.was)

pub returns-in_err-next : goal.returns-in_err-next
returns-in_err-next c =
    let first = c.leading in
    let next = c.root_at in
    let p = err_from_is_err_and c.from_residual-in_err-next.result c.from_residual-in_err-next.ensures.1 in
    rw (p.1, p.2)
    (walking.resumed _ _ _ (inside []) next.result _ next.ensures c.in_err-next.was
    ∙ walking.resumed _ _ _ root first.result _ first.ensures c.in_ok-at.was)

pub returns : goal.returns
returns c =
    let first = c.leading in
    let next = c.root_at in
    c.closing.ensures ∙ walking.resumed _ _ _ (inside []) next.result _ next.ensures c.in_ok-next.was
    ∙ walking.resumed _ _ _ root first.result _ first.ensures c.in_ok-at.was
