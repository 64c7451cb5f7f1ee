-- A sheet's words lose nothing: of a token of a walk every field fits its bits, and the sheet gives each token's fields back. Assumes nothing.
use mathlib.Core.Path.{◌≡◌, refl, ap, subst, ◌∙◌}
use mathlib.Core.List.{List, [], ◌∷◌, map}
use Prim.Native.Nat.{ℕ, suc, ◌+◌, ◌-◌, ◌*◌, ◌/◌, ◌%◌, ◌^◌, ◌≤◌, ◌<◌}
use native.Mathlib.Omega.{arith}
use borrow.Author.Tests.{leb-true}
use lib.Dec.{leb}
use lib.ListN.{length}
use Rattle.cursor.proofs.Choice.{either}
use Rattle.tokens.specs.Walk.{Walked, ok, bad, walk_at, walk_in, walk_of}
use Rattle.tokens.specs.declared.Flags.{Flags}
use Rattle.tokens.specs.declared.Token.{Token}
use Rattle.tokens.proofs.Steps.{Inside, All, AllInside, walk_inside}
use Rattle.sheet.specs.Sheet.{flag_bit, words_of}
use Rattle.sheet.proofs.OldWord.{bit_small}
use Rattle.promises.specs.Packed.{Bytes}
use Rattle.promises.specs.Words.{Fields, fields_of, Said, sheet_says, InBits}
use Rattle.promises.proofs.EachToken.{AllOf}
use Rattle.promises.proofs.Numbered.{InToken, walk_numbered}

-- six numbers in their own bits
module _ (k p l n b a : ℕ) (hk : k < 2 ^ 4) (hp : p < 2 ^ 17) (hl : l < 2 ^ 17) (hn : n < 2 ^ 16) (hb : b ≤ 1) (ha : a ≤ 1) where
  abbrev word : ℕ
  word = k % 2 ^ 4 * 2 ^ 60 + p % 2 ^ 17 * 2 ^ 43 + l % 2 ^ 17 * 2 ^ 26 + n * 2 ^ 10 + b * 2 ^ 9 + a * 2 ^ 8

  apart : (word / 2 ^ 60 ≡ k) × (word / 2 ^ 43 % 2 ^ 17 ≡ p) × (word / 2 ^ 26 % 2 ^ 17 ≡ l) × (word / 2 ^ 10 % 2 ^ 16 ≡ n) × (word / 2 ^ 9 % 2 ≡ b) × (word / 2 ^ 8 % 2 ≡ a)
  apart = (omega arith, omega arith, omega arith, omega arith, omega arith, omega arith)

-- and one in the upper half of its own word
alone : (m : ℕ) → m < 2 ^ 32 → m % 2 ^ 32 * 2 ^ 32 / 2 ^ 32 ≡ m
alone m h = omega arith

pub token_said : (t : Token) → InBits t → Said t
token_said t h =
    let e =
    apart t.kind t.place t.len t.number (flag_bit t.flag) (flag_bit t.announced) h.0 h.1 h.2 h.3 (bit_small t.flag) (bit_small t.announced) in
    let m = alone t.name h.4 in
    λ i. record { kind = e.0 i; place = e.1 i; len = e.2 i; number = e.3 i; flag = e.4 i; announced = e.5 i; name = m i }

token_bits : (high : ℕ) (t : Token) → high ≤ 65536 → Inside high t → InToken t → InBits t
token_bits high t short i n = (omega (arith, i.3), omega (arith, i.1), omega (arith, i.1), n.0, n.1)

both : (high : ℕ) (l : List Token) → high ≤ 65536 → All (Inside high) l → All InToken l → All (λ t. InBits t × Said t) l
both high [] short i n = tt {0}
both high (t ∷ l) short i n = let h = token_bits high t short i.0 n.0 in ((h, token_said t h), both high l short i.1 n.1)

abbrev WalkSaid : Walked → Type 0
WalkSaid (ok l) = All (λ t. InBits t × Said t) l
WalkSaid (bad k p) = Unit {0}

walk_said : (high : ℕ) (w : Walked) → high ≤ 65536 → AllInside high w → AllOf InToken w → WalkSaid w
walk_said high (ok l) short i n = both high l short i n
walk_said high (bad k p) short i n = tt {0}

all_said : (l : List Token) → All (λ t. InBits t × Said t) l → sheet_says (words_of l) ≡ map fields_of l
all_said [] h = refl
all_said (t ∷ l) h =
    ap (λ (x : Fields). x ∷ sheet_says (words_of l)) h.0.1 ∙ ap (λ (r : List Fields). fields_of t ∷ r) (all_said l h.1)

module _ (s : List ℕ) (bytes : Bytes s) (start len : ℕ) (f : Flags) where
  whole_said : WalkSaid (walk_of s start len f)
  unfolding walk_of
  whole_said =
      either (λ x. WalkSaid (walk_in s f x)) (leb (length s) 65536) _ _
      (λ h. either (λ x. WalkSaid (walk_in s f x)) (leb start (length s)) _ _
      (λ k. walk_said (length s) (walk_at s (start + len) f start) (leb-true (length s) 65536 h)
      (walk_inside s (start + len) f (suc (length s - start)) start)
      (walk_numbered s bytes (leb-true (length s) 65536 h) (start + len) f (suc (length s - start)) start))
      (λ k. tt {0}))
      (λ h. tt {0})

  -- every token of every walk: its fields fit, and its words say them
  pub words_kept : (l : List Token) → walk_of s start len f ≡ ok l → All (λ t. InBits t × Said t) l
  words_kept l e = subst WalkSaid e whole_said

  -- a sheet gives back kind, place, length, number, flag, announced and name of each token, in order
  pub fields_kept : (l : List Token) → walk_of s start len f ≡ ok l → sheet_says (words_of l) ≡ map fields_of l
  fields_kept l e = all_said l (words_kept l e)
