-- `loaded` meets its contract. Assumes nothing.
use mathlib.Core.Path.{ap}
use mathlib.Core.List.{List}
use Prim.Native.Nat.{ℕ, ◌-◌, ◌^◌}
use borrow.Author.Rules.{rules}
use Rattle.print.proofs.Putting.{put_as}
use Rattle.stream_answers.specs.Modes.{asked_walk, lent_words}
use Rattle.stream_answers.specs.Kept.{kept_stream, kept_text}
use Rattle.stream_answers.proofs.keeping.loaded.Goals as goal

pub returns : goal.returns
returns c =
    let a = c.args in
    let b = a.bytes.now in
    put_as (ap (λ (g : List ℕ). kept_text a.narrow (asked_walk (kept_stream b) a.asked) g (lent_words b (2 ^ 64 - 1))) c.load.ensures) c.lent.ensures
