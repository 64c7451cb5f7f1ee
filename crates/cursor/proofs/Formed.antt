-- Well-formed units, one after another. Assumes nothing.
use mathlib.Core.Path.{◌≡◌, refl, sym, ap, ◌∙◌}
use mathlib.Core.Bool.{Bool, true, false, not, ◌&&◌}
use mathlib.Core.List.{List}
use Prim.Native.Nat.{ℕ, suc, ◌+◌, ◌≤◌, ◌<◌}
use native.Mathlib.Numerals.{add-one}
use lib.ListN.{length, drop, get_or, drop_of_length-le}
use lib.Seq.{drop-cons}
use Rattle.cursor.specs.Answer.{pick}
use Rattle.cursor.specs.Text.{high_surrogate, low_surrogate, well_formed_after}

and_assoc : (a b c : Bool) → (a && (b && c)) ≡ ((a && b) && c)
and_assoc true b c = refl
and_assoc false b c = refl

-- from the unit n on, behind a high surrogate or not
module _ (us : List ℕ) (n : ℕ) (high : Bool) where
  pub formed_more : (sound : Bool) → n < length us
      → (sound && well_formed_after high (drop n us))
      ≡ ((sound && pick high (low_surrogate (get_or us n 0)) (not (low_surrogate (get_or us n 0)))) && well_formed_after (high_surrogate (get_or us n 0)) (drop (n + 1) us))
  unfolding well_formed_after
  formed_more sound h =
      let u = get_or us n 0 in
      let f = pick high (low_surrogate u) (not (low_surrogate u)) in
      ap (λ (l : List ℕ). sound && well_formed_after high l) (drop-cons us n 0 h)
      ∙ and_assoc sound f (well_formed_after (high_surrogate u) (drop (suc n) us))
      ∙ ap (λ (m : ℕ). (sound && f) && well_formed_after (high_surrogate u) (drop m us)) (sym (add-one n))

  pub formed_end : length us ≤ n → well_formed_after high (drop n us) ≡ not high
  unfolding well_formed_after
  formed_end h = rw (drop_of_length-le us h)
