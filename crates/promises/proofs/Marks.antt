-- The mark of every token of every walk says its kind and whether it announces attributes. Assumes nothing.
use mathlib.Core.Path.{◌≡◌, refl, subst}
use mathlib.Core.Bool.{Bool, true, false, ◌||◌}
use mathlib.Core.List.{List}
use Prim.Native.Nat.{ℕ, suc, ◌+◌, ◌-◌, ◌*◌, ◌%◌, ◌^◌}
use lib.Dec.{eqb, leb}
use lib.ListN.{length}
use Rattle.cursor.specs.Answer.{Answer, given, refused}
use Rattle.cursor.specs.Reads.{number_of, number_at}
use Rattle.cursor.specs.Text.{prefixed_at}
use Rattle.cursor.proofs.Choice.{either}
use Rattle.name.specs.Name.{name_at}
use Rattle.value.specs.Value.{unsized_at}
use Rattle.tokens.specs.Token.{bare_at, char_ref_at, type_at, substitution_at, named_at, open_at, text_token_at, value_token_at}
use Rattle.tokens.specs.Table.{gist_at}
use Rattle.tokens.specs.Pieces.{dependency_at, list_size_at}
use Rattle.tokens.specs.Instance as I
use Rattle.tokens.specs.Walk.{ok, walk_in, walk_of}
use Rattle.tokens.specs.declared.Flags.{Flags}
use Rattle.tokens.specs.declared.plain.Gist.{Gist}
use Rattle.tokens.specs.declared.Token.{Token}
use Rattle.tokens.proofs.Steps.{All}
use Rattle.sheet.specs.Sheet.{flag_bit}
use Rattle.body.specs.Grammar.{announces, kind_of}
use Rattle.promises.specs.Told.{Marked}
use Rattle.promises.proofs.EachToken.{Of, of_later, OfToken, AllOf, walk_each}

-- of what was read, by its kind and its bit
abbrev Says : ℕ → Bool → Type 0
Says kind announced =
    (kind_of (kind % 2 ^ 4 + flag_bit announced * 2 ^ 4) ≡ kind) × (announces (kind % 2 ^ 4 + flag_bit announced * 2 ^ 4) ≡ announced)

abbrev Q : Gist → Type 0
Q g = Says g.kind g.announced

module _ (s : List ℕ) where
  opened : (announced : Bool) → Says 2 announced
  unfolding kind_of
  opened true = (refl, refl)
  opened false = (refl, refl)

  open_says : (f : Flags) (announced : Bool) (at : ℕ) → Of Q (open_at s f announced at)
  open_says f announced at =
      of_later Q (dependency_at s f.dependencies at) _ (λ d n.
      of_later Q (number_at s n 4) _ (λ _ m.
      of_later Q (name_at s m f.inline) _ (λ name e.
      of_later Q (list_size_at s announced e) _ (λ _ z.
      either Q (eqb d 0xFFFF) _ _ (λ e. opened announced) (λ e. opened announced)))))

  instance_says : (at : ℕ) → Of Q (I.instance_at s at)
  unfolding kind_of
  instance_says at =
      of_later Q (I.instance_head_at s at) _ (λ i n. of_later Q (I.values_at s i.table n i.count) _ (λ _ m. (refl, refl)))

  named_says : (inline : Bool) (kind at : ℕ) → Says kind false → Of Q (named_at s inline kind at)
  named_says inline kind at h = of_later Q (name_at s at inline) _ (λ x n. h)

  text_says : (kind at : ℕ) → Says kind false → Of Q (text_token_at s kind at)
  text_says kind at h = of_later Q (prefixed_at s at false) _ (λ v n. h)

  substitution_says : (optional : Bool) (at : ℕ) → Of Q (substitution_at s optional at)
  unfolding kind_of
  substitution_says optional at = of_later Q (number_at s at 2) _ (λ x n. of_later Q (type_at s n) _ (λ _ m. (refl, refl)))

  byte_says : (f : Flags) (b at : ℕ) → Of Q (gist_at s f b at)
  unfolding gist_at kind_of
  byte_says f b at =
      let P = Of Q in
      either P (eqb b 0x0C) _ _ (λ e. instance_says at)
      (λ e. either P (eqb b 0x01) _ _ (λ e. open_says f false at)
      (λ e. either P (eqb b 0x41) _ _ (λ e. open_says f true at)
      (λ e. either P (eqb b 0x02) _ _ (λ e. (refl, refl))
      (λ e. either P (eqb b 0x03) _ _ (λ e. (refl, refl))
      (λ e. either P (eqb b 0x04) _ _ (λ e. (refl, refl))
      (λ e. either P (eqb b 0x05 || eqb b 0x45) _ _ (λ e. of_later Q (unsized_at s at) _ (λ v m. (refl, refl)))
      (λ e. either P (eqb b 0x06 || eqb b 0x46) _ _ (λ e. named_says f.inline 7 at (refl, refl))
      (λ e. either P (eqb b 0x07 || eqb b 0x47) _ _ (λ e. text_says 11 at (refl, refl))
      (λ e. either P (eqb b 0x08 || eqb b 0x48) _ _ (λ e. of_later Q (number_at s at 2) _ (λ x m. (refl, refl)))
      (λ e. either P (eqb b 0x09 || eqb b 0x49) _ _ (λ e. named_says f.inline 8 at (refl, refl))
      (λ e. either P (eqb b 0x0A) _ _ (λ e. named_says f.inline 9 at (refl, refl))
      (λ e. either P (eqb b 0x0B) _ _ (λ e. text_says 10 at (refl, refl))
      (λ e. either P (eqb b 0x0D) _ _ (λ e. substitution_says false at)
      (λ e. either P (eqb b 0x0E) _ _ (λ e. substitution_says true at)
      (λ e. tt {0})))))))))))))))

  placed_marked : (place : ℕ) (a : Answer Gist) → Of Q a → OfToken Marked place a
  placed_marked place (given g n) h = h
  placed_marked place (refused k p) h = tt {0}

module _ (s : List ℕ) (start len : ℕ) (f : Flags) where
  walk_marked : AllOf Marked (walk_of s start len f)
  unfolding walk_of
  walk_marked =
      either (λ x. AllOf Marked (walk_in s f x)) (leb (length s) 65536) _ _
      (λ h. either (λ x. AllOf Marked (walk_in s f x)) (leb start (length s)) _ _
      (λ k. walk_each Marked s (start + len) f (λ place. placed_marked s place (gist_at s f (number_of s place 1) (place + 1)) (byte_says s f (number_of s place 1) (place + 1)))
      (suc (length s - start)) start)
      (λ k. tt {0}))
      (λ h. tt {0})

  -- of every token of a walk that is read
  pub marks_told : (l : List Token) → walk_of s start len f ≡ ok l → All Marked l
  marks_told l e = subst (AllOf Marked) e walk_marked
