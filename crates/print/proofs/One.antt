-- A text leaves one buffer and one end. Assumes nothing.
use mathlib.Core.Path.{◌≡◌, sym, ap, ◌∙◌}
use mathlib.Core.List.{List}
use Prim.Native.Nat.{ℕ}
use Rattle.print.specs.Text.{Page, page, put, Puts, PutsSome}

module _ (lent : List ℕ) (at : ℕ) (left left' : List ℕ) (end end' : ℕ) where
  pub puts_one : (t u : List ℕ) → t ≡ u → Puts t lent at left end → Puts u lent at left' end' → (left ≡ left') × (end ≡ end')
  puts_one t u e h k =
      let p : page left end ≡ page left' end' = h.is ∙ ap (λ (l : List ℕ). put l (page lent at)) e ∙ sym k.is in
      (ap (λ (x : Page). x.bytes) p, ap (λ (x : Page). x.full) p)

  -- where a definition allows one text only
  pub some_one : (Allowed : List ℕ → Type 0) → ((t u : List ℕ) → Allowed t → Allowed u → t ≡ u) → PutsSome Allowed lent at left end
      → PutsSome Allowed lent at left' end' → (left ≡ left') × (end ≡ end')
  some_one Allowed one h k = puts_one h.text k.text (one h.text k.text h.allowed k.allowed) h.puts k.puts
