-- `new_beside` meets its contract: the first word, and where that is right the second. Assumes nothing.
use mathlib.Core.Path.{◌≡◌, sym, ◌∙◌}
use native.Mathlib.Omega.{arith}
use Rattle.sheet.proofs.Keeping.{two_some}
use Rattle.sheet.proofs.new_beside.Goals as goal

pub returns : goal.returns
returns c =
    let a = c.args in
    let next = c.word_beside-next.result in
    (λ h. c.word_beside.ensures ∙ two_some a.given.now a.same a.first a.second next c.word_beside-next.ensures c.if-next-same.false, λ h. absurd (omega (arith, h, c.if-same-n.false)))
