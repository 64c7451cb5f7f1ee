-- `called` meets its contract. Assumes nothing.
use mathlib.Core.Path.{◌≡◌, sym, ap, ◌∙◌}
use Prim.Native.Nat.{ℕ, ◌-◌, ◌^◌, ◌≤◌}
use native.Mathlib.Omega.{arith}
use borrow.Author.Rules.{rules}
use lib.ListN.{length, take, replicate, length-replicate}
use lib.Seq.{length-take-le}
use Rattle.print.proofs.Putting.{put_as}
use Rattle.stream_answers.specs.Modes.{asked_walk, lent_words}
use Rattle.stream_answers.specs.Kept.{stored_words, kept_stream, kept_text}
use Rattle.stream_answers.proofs.keeping.called.Goals as goal

pub slice_bounds-loaded-end : goal.slice_bounds-loaded-end
slice_bounds-loaded-end c =
    let z = length-replicate {A = ℕ} 41471 0 in
    sym (length-take-le _ (replicate {A = ℕ} 41471 0) (omega (arith, z, c.given_count-m.ensures.1)))

pub loaded-requires : goal.loaded-requires
loaded-requires c =
    let z = length-replicate {A = ℕ} 41471 0 in
    let m = c.given_count-m.result in
    let h : m ≤ length {A = ℕ} (replicate {A = ℕ} 41471 0) = omega (arith, z, c.given_count-m.ensures.1) in
    omega (arith, length-take-le m (replicate {A = ℕ} 41471 0) h, c.given_count-m.ensures.1)

pub returns : goal.returns
returns c =
    let a = c.args in
    let b = a.bytes.now in
    let z = length-replicate {A = ℕ} 41471 0 in
    let m = c.given_count-m.result in
    let h : m ≤ length {A = ℕ} (replicate {A = ℕ} 41471 0) = omega (arith, z, c.given_count-m.ensures.1) in
    put_as
    (ap (λ (n : ℕ). kept_text a.narrow (asked_walk (kept_stream b) a.asked) (stored_words n b 8) (lent_words b (2 ^ 64 - 1))) (length-take-le m (replicate {A = ℕ} 41471 0) h ∙ c.given_count-m.ensures.0))
    c.loaded.ensures
