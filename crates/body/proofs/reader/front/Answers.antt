-- `front` meets its contract. Assumes nothing.
use mathlib.Core.Path.{ap, ◌∙◌}
use Rattle.std.specs.Prelude.{Ok}
use Rattle.std.proofs.lemmas.Result.{err_from_is_err_and}
use Rattle.body.proofs.Walking as walking
use Rattle.body.proofs.reader.front.Goals as goal

pub returns-in-Empty : goal.returns-in-Empty
returns-in-Empty c =
    let got = c.open_tag in
    let n = c.in_ok-next.was ∙ ap Ok c.in-Empty.is in record { tag_further = walking.tag_further_is _ _ got.result _ got.ensures.tag_further n; open_read = λ st. walking.tag_resumed _ _ _ _ st _ _ (got.ensures.open_read st) n }

pub leaves-requires : goal.leaves-requires
leaves-requires c =
    let got = c.open_tag in
    (walking.tag_further_is _ _ got.result _ got.ensures.tag_further (c.in_ok-next.was ∙ ap Ok c.in-Full.is)).1

pub returns-in-Full : goal.returns-in-Full
returns-in-Full c =
    let got = c.open_tag in
    let n = c.in_ok-next.was ∙ ap Ok c.in-Full.is in
    let f = walking.tag_further_is _ _ got.result _ got.ensures.tag_further n in
    let l = c.leaves in record { tag_further = l.ensures.0 _ f.0; open_read = λ st. l.ensures.1 st ∙ walking.tag_resumed _ _ _ _ st _ _ (got.ensures.open_read st) n }

pub returns-in_err-next : goal.returns-in_err-next
returns-in_err-next c =
    let got = c.open_tag in
    let n = c.in_err-next.was in
    let p = err_from_is_err_and c.from_residual.result c.from_residual.ensures.1 in
    rw (p.1, p.2) (record { tag_further = tt {0}; open_read = λ st. walking.tag_resumed _ _ _ _ st _ _ (got.ensures.open_read st) n })
