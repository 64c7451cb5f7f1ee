-- Every token of every walk is announced exactly where its byte is 41, and has a name's offset only where it has a name. Assumes nothing.
use mathlib.Core.Path.{◌≡◌, refl, sym, subst, ◌∙◌}
use mathlib.Core.Logic.{◌⊎◌, inl, inr}
use mathlib.Core.Bool.{Bool, true, false, ◌||◌}
use mathlib.Core.List.{List}
use Prim.Native.Nat.{ℕ, suc, ◌+◌, ◌-◌}
use native.Mathlib.Omega.{arith}
use borrow.Author.Tests.{eqb-true, ne_eqb}
use lib.Dec.{eqb, leb}
use lib.ListN.{length}
use Rattle.cursor.specs.Answer.{Answer, given, refused}
use Rattle.cursor.specs.Reads.{number_of, number_at}
use Rattle.cursor.specs.Text.{prefixed_at}
use Rattle.cursor.proofs.Choice.{either}
use Rattle.name.specs.Name.{name_at}
use Rattle.value.specs.Value.{unsized_at}
use Rattle.tokens.specs.Token.{bare_at, char_ref_at, type_at, substitution_at, named_at, open_at, text_token_at, value_token_at}
use Rattle.tokens.specs.Table.{gist_at}
use Rattle.tokens.specs.Pieces.{dependency_at, list_size_at}
use Rattle.tokens.specs.Instance as I
use Rattle.tokens.specs.Walk.{ok, walk_in, walk_of}
use Rattle.tokens.specs.declared.Flags.{Flags}
use Rattle.tokens.specs.declared.plain.Gist.{Gist}
use Rattle.tokens.specs.declared.Token.{Token}
use Rattle.tokens.proofs.Steps.{All}
use Rattle.promises.specs.Told.{has_name, Told}
use Rattle.promises.proofs.EachToken.{Of, of_later, OfToken, AllOf, walk_each}

-- of what was read: announced or not, and its name
abbrev Says : Bool → Gist → Type 0
Says announced g = (g.announced ≡ announced) × ((g.name ≡ 0) ⊎ (has_name g.kind ≡ true))

module _ (s : List ℕ) where
  open_says : (f : Flags) (announced : Bool) (at : ℕ) → Of (Says announced) (open_at s f announced at)
  open_says f announced at =
      let Q = Says announced in
      of_later Q (dependency_at s f.dependencies at) _ (λ d n.
      of_later Q (number_at s n 4) _ (λ _ m.
      of_later Q (name_at s m f.inline) _ (λ name e.
      of_later Q (list_size_at s announced e) _ (λ _ z.
      either Q (eqb d 0xFFFF) _ _ (λ e. (refl, inr refl)) (λ e. (refl, inr refl))))))

  instance_says : (at : ℕ) → Of (Says false) (I.instance_at s at)
  instance_says at =
      of_later (Says false) (I.instance_head_at s at) _ (λ i n. of_later (Says false) (I.values_at s i.table n i.count) _ (λ _ m. (refl, inl refl)))

  -- of those that hold a name: attribute, entity ref, PI target
  named_says : (inline : Bool) (kind at : ℕ) → has_name kind ≡ true → Of (Says false) (named_at s inline kind at)
  named_says inline kind at h = of_later (Says false) (name_at s at inline) _ (λ x n. (refl, inr h))

  text_says : (kind at : ℕ) → Of (Says false) (text_token_at s kind at)
  text_says kind at = of_later (Says false) (prefixed_at s at false) _ (λ v n. (refl, inl refl))

  substitution_says : (optional : Bool) (at : ℕ) → Of (Says false) (substitution_at s optional at)
  substitution_says optional at =
      of_later (Says false) (number_at s at 2) _ (λ x n. of_later (Says false) (type_at s n) _ (λ _ m. (refl, inl refl)))

  -- what is said of a byte other than 41
  other : (b : ℕ) (a : Answer Gist) → eqb b 0x41 ≡ false → Of (Says false) a → Of (Says (eqb b 0x41)) a
  other b a e h = subst (λ (x : Bool). Of (Says x) a) (sym e) h

  not_41 : (b k : ℕ) → eqb b k ≡ true → (k ≡ 0x41 → ⊥) → eqb b 0x41 ≡ false
  not_41 b k e n = ne_eqb b 0x41 (λ q. n (sym (eqb-true b k e) ∙ q))

  byte_says : (f : Flags) (b at : ℕ) → Of (Says (eqb b 0x41)) (gist_at s f b at)
  unfolding gist_at
  byte_says f b at =
      let P = Of (Says (eqb b 0x41)) in
      either P (eqb b 0x0C) _ _ (λ e. other b (I.instance_at s at) (not_41 b 0x0C e (λ q. omega arith)) (instance_says at))
      (λ e. either P (eqb b 0x01) _ _ (λ e. other b (open_at s f false at) (not_41 b 0x01 e (λ q. omega arith)) (open_says f false at))
      (λ e. either P (eqb b 0x41) _ _ (λ e. subst (λ (x : Bool). Of (Says x) (open_at s f true at)) (sym e) (open_says f true at))
      (λ n. either P (eqb b 0x02) _ _ (λ e. other b (bare_at 3 at) n (refl, inl refl))
      (λ e. either P (eqb b 0x03) _ _ (λ e. other b (bare_at 4 at) n (refl, inl refl))
      (λ e. either P (eqb b 0x04) _ _ (λ e. other b (bare_at 5 at) n (refl, inl refl))
      (λ e. either P (eqb b 0x05 || eqb b 0x45) _ _ (λ e. other b (value_token_at s at) n (of_later (Says false) (unsized_at s at) _ (λ v m. (refl, inl refl))))
      (λ e. either P (eqb b 0x06 || eqb b 0x46) _ _ (λ e. other b (named_at s f.inline 7 at) n (named_says f.inline 7 at refl))
      (λ e. either P (eqb b 0x07 || eqb b 0x47) _ _ (λ e. other b (text_token_at s 11 at) n (text_says 11 at))
      (λ e. either P (eqb b 0x08 || eqb b 0x48) _ _ (λ e. other b (char_ref_at s at) n (of_later (Says false) (number_at s at 2) _ (λ x m. (refl, inl refl))))
      (λ e. either P (eqb b 0x09 || eqb b 0x49) _ _ (λ e. other b (named_at s f.inline 8 at) n (named_says f.inline 8 at refl))
      (λ e. either P (eqb b 0x0A) _ _ (λ e. other b (named_at s f.inline 9 at) n (named_says f.inline 9 at refl))
      (λ e. either P (eqb b 0x0B) _ _ (λ e. other b (text_token_at s 10 at) n (text_says 10 at))
      (λ e. either P (eqb b 0x0D) _ _ (λ e. other b (substitution_at s false at) n (substitution_says false at))
      (λ e. either P (eqb b 0x0E) _ _ (λ e. other b (substitution_at s true at) n (substitution_says true at))
      (λ e. tt {0})))))))))))))))

  placed_told : (place : ℕ) (a : Answer Gist) → Of (Says (eqb (number_of s place 1) 0x41)) a → OfToken (Told s) place a
  placed_told place (given g n) h = h
  placed_told place (refused k p) h = tt {0}

module _ (s : List ℕ) (start len : ℕ) (f : Flags) where
  walk_told : AllOf (Told s) (walk_of s start len f)
  unfolding walk_of
  walk_told =
      either (λ x. AllOf (Told s) (walk_in s f x)) (leb (length s) 65536) _ _
      (λ h. either (λ x. AllOf (Told s) (walk_in s f x)) (leb start (length s)) _ _
      (λ k. walk_each (Told s) s (start + len) f (λ place. placed_told s place (gist_at s f (number_of s place 1) (place + 1)) (byte_says s f (number_of s place 1) (place + 1)))
      (suc (length s - start)) start)
      (λ k. tt {0}))
      (λ h. tt {0})

  -- of every token of a walk that is read
  pub announced_told : (l : List Token) → walk_of s start len f ≡ ok l → All (Told s) l
  announced_told l e = subst (AllOf (Told s)) e walk_told
