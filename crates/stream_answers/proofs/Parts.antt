-- A text that is put part by part: what is left of it. Assumes nothing.
use mathlib.Core.Path.{◌≡◌, refl, sym, ap, subst, ◌∙◌}
use mathlib.Core.List.{List, [], ◌∷◌, ◌++◌}
use Prim.Native.Nat.{ℕ}
use Rattle.print.specs.Text.{Page, page, put, put_byte, Puts, PutsSome}
use Rattle.print.proofs.Putting.{Left}

put_append : (t u : List ℕ) (p : Page) → put (t ++ u) p ≡ put u (put t p)
unfolding put
put_append [] u p = refl
put_append (b ∷ t) u p = put_append t u (put_byte b p)

module _ {rest whole out lent : List ℕ} {end at : ℕ} (w : Left rest out end whole lent at) where
  -- a part of what is left is put
  pub left_next : {t more next : List ℕ} {m : ℕ} → rest ≡ t ++ more → Puts t out end next m → Left more next m whole lent at
  left_next {t} {more} e h =
      record { is = ap (put more) h.is ∙ sym (put_append t more (page out end)) ∙ sym (ap (λ (l : List ℕ). put l (page out end)) e) ∙ w.is }

  -- all that is left is put
  pub left_all : {t next : List ℕ} {m : ℕ} → rest ≡ t → Puts t out end next m → Puts whole lent at next m
  left_all e h = record { is = h.is ∙ sym (ap (λ (l : List ℕ). put l (page out end)) e) ∙ w.is }

  -- nothing is left
  pub left_none : rest ≡ [] → Puts whole lent at out end
  unfolding put
  left_none e = record { is = sym (ap (λ (l : List ℕ). put l (page out end)) e) ∙ w.is }

-- nothing of a text is put yet, under another name
pub left_whole : {rest whole lent : List ℕ} {at : ℕ} → rest ≡ whole → Left rest lent at whole lent at
left_whole {lent = lent} {at = at} e = record { is = ap (λ (l : List ℕ). put l (page lent at)) e }

-- a text that is allowed, under another name of what is allowed
pub some_as : {P Q : List ℕ → Type 0} {lent left : List ℕ} {at end : ℕ} → P ≡ Q → PutsSome P lent at left end → PutsSome Q lent at left end
some_as {lent = lent} {left = left} {at = at} {end = end} e h = subst (λ (R : List ℕ → Type 0). PutsSome R lent at left end) e h
