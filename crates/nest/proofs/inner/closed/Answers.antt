-- `closed` meets its contract: past its value, or by the grammar. Assumes nothing.
use mathlib.Core.Path.{sym, ◌∙◌}
use Rattle.nest.proofs.Closing.{never}
use Rattle.nest.proofs.inner.closed.Goals as goal

pub returns-then-past : goal.returns-then-past
returns-then-past c =
    let e = sym c.past.ensures ∙ c.if-past.true in record { result_value = simp (e, c.refuse.ensures); verdict_laid = λ f. absurd (never _ e f) }
