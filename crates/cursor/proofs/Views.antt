-- The view of a text, unit by unit. Assumes nothing.
use mathlib.Core.Path.{◌≡◌, sym, ap, ◌∙◌}
use mathlib.Core.Bool.{Bool, not, ◌&&◌}
use mathlib.Core.List.{List}
use Prim.Native.Nat.{ℕ, ◌+◌, ◌*◌, ◌<◌}
use native.Mathlib.Omega.{arith}
use lib.ListN.{length, get_or, drop}
use lib.Seq.{get_or-take, length-take-le}
use Rattle.cursor.specs.Answer.{pick}
use Rattle.cursor.specs.Pieces.{view_at}
use Rattle.cursor.specs.Text.{before_zero, shown_of, high_surrogate, low_surrogate, well_formed_after, well_formed, view_of}
use Rattle.cursor.proofs.Formed.{formed_more, formed_end}
use Rattle.cursor.proofs.Units.{before_length}

module _ (us : List ℕ) (n : ℕ) (high sound : Bool) where
  shown_length : length (shown_of us) ≡ before_zero us
  shown_length = length-take-le (before_zero us) us (before_length us)

  -- one unit more that is shown
  pub view_more : n < before_zero us
      → (sound && well_formed_after high (drop n (shown_of us)))
      ≡ ((sound && pick high (low_surrogate (get_or us n 0)) (not (low_surrogate (get_or us n 0)))) && well_formed_after (high_surrogate (get_or us n 0)) (drop (n + 1) (shown_of us)))
  view_more h =
      formed_more (shown_of us) n high sound (omega (arith, h, shown_length))
      ∙ ap (λ (u : ℕ). (sound && pick high (low_surrogate u) (not (low_surrogate u))) && well_formed_after (high_surrogate u) (drop (n + 1) (shown_of us)))
      (get_or-take (before_zero us) us n 0 h)

  -- all that is shown
  pub view_end : (at : ℕ) → before_zero us ≡ n → well_formed (shown_of us) ≡ (sound && well_formed_after high (drop n (shown_of us)))
      → view_at at n (sound && not high) ≡ view_of at us
  view_end at z e =
      let k = sym (e ∙ ap (λ (x : Bool). sound && x) (formed_end (shown_of us) n high (omega (arith, z, shown_length)))) in
      λ i. record { part = record { start = at; len = 2 * sym z i }; sound = k i }
