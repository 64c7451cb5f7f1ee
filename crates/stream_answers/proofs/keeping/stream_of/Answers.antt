-- `stream_of` meets its contract. Assumes nothing.
use mathlib.Core.Path.{ap, ◌∙◌}
use Prim.Native.Nat.{ℕ, ◌+◌, ◌*◌}
use borrow.Author.Rules.{rules}
use lib.ListN.{drop}
use Rattle.stream_answers.proofs.keeping.stream_of.Goals as goal

pub returns : goal.returns
returns c = c.behind.ensures ∙ ap (λ (k : ℕ). drop (8 + 8 * k) c.args.bytes.now) c.given_count.ensures.0
