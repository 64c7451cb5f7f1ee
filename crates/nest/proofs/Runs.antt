-- Runs of tokens, and of values that hold no body: whatever walk goes on where a run begins goes on where it stops. Assumes nothing.
use mathlib.Core.Path.{◌≡◌, ap, subst, ◌∙◌}
use mathlib.Core.Bool.{Bool, true, false}
use mathlib.Core.List.{List}
use Prim.Native.Nat.{ℕ, ◌+◌, ◌*◌, ◌≤◌, ◌<◌}
use lib.Dec.{eqb}
use lib.ListN.{length, set}
use lib.Seq.{sets}
use Rattle.cursor.specs.Answer.{Answer, given, gives, pick, just}
use Rattle.tokens.specs.Instance.{ValueNext, next_of}
use Rattle.tokens.specs.Sight.{Seen, met, sight_at}
use Rattle.tokens.specs.Walk.{handed, header}
use Rattle.tokens.specs.declared.Flags.{Flags}
use Rattle.tokens.specs.declared.Token.{Token}
use Rattle.tokens.specs.declared.Values.{Values}
use Rattle.tokens.proofs.Sights.{Sees, sight_sees}
use Rattle.sheet.specs.Sheet.{mark_of}
use Rattle.nest.specs.Going as going
use Rattle.nest.specs.Going.{Carries, Passes}
use Rattle.nest.specs.Nested.{bin_xml, ninth_level, words_at}
use Rattle.nest.specs.Pieces.{refusal_of, seen_event, value_event}
use Rattle.nest.specs.declared.inner.Event.TheVariants as E
use Rattle.nest.specs.declared.inner.Place.TheVariants as P
use Rattle.nest.proofs.Noting.{on_token}
use Rattle.nest.proofs.Moving.{on_moved}

-- what a run of tokens does: nothing, one token more, or a header
module _ (s : List ℕ) (end : ℕ) (f : Flags) (level at n k : ℕ) (marks numbers sheet : List ℕ) where
  pub run_from : {m : ℕ} → n ≡ m → Carries s end f level at n k marks numbers sheet at m k marks numbers sheet
  run_from e first sheet₀ table₀ table inner whole g = subst (λ (z : ℕ). going.Going level first sheet₀ table₀ s inner end f whole at z k marks numbers sheet table) e g

  pub run_on : (here i m m' : ℕ) (marks' numbers' sheet' : List ℕ) → m ≡ m' → Carries s end f level at n k marks numbers sheet here m i marks' numbers' sheet'
      → Carries s end f level at n k marks numbers sheet here m' i marks' numbers' sheet'
  run_on here i m m' marks' numbers' sheet' e h first sheet₀ table₀ table inner whole g =
      subst (λ (z : ℕ). going.Going level first sheet₀ table₀ s inner end f whole here z i marks' numbers' sheet' table) e (h first sheet₀ table₀ table inner whole g)

token_spans_of : (s : List ℕ) (end : ℕ) (f : Flags) (at : ℕ) (x : Answer Seen) → sight_at s end f at ≡ x → Sees at (length s) x
token_spans_of s end f at x e = subst (Sees at (length s)) e (sight_sees s end f at)

module _ (s : List ℕ) (end : ℕ) (f : Flags) (at : ℕ) where
  pub token_spans : (t : Token) (next : ℕ) → sight_at s end f at ≡ given (met (handed t)) next → (at < next) × (next ≤ length s)
  token_spans t next e = token_spans_of s end f at (given (met (handed t)) next) e

  pub header_spans : (next : ℕ) → sight_at s end f at ≡ given (met header) next → (at < next) × (next ≤ length s)
  header_spans next e = token_spans_of s end f at (given (met header) next) e

module _ (s : List ℕ) (end : ℕ) (f : Flags) (level : ℕ) (small : length s ≤ 65536) (at n k : ℕ) (marks numbers sheet : List ℕ) (here m i : ℕ) (marks₁ numbers₁ sheet₁ : List ℕ)
    (h : Carries s end f level at n k marks numbers sheet here m i marks₁ numbers₁ sheet₁) where
  pub run_token : (t : Token) (next : ℕ) (marks₂ numbers₂ sheet₂ : List ℕ) → sight_at s end f here ≡ given (met (handed t)) next → i < length marks₁ → i < length numbers₁
      → marks₂ ≡ set marks₁ i (mark_of t) → numbers₂ ≡ set numbers₁ i m → sheet₂ ≡ sets sheet₁ (m * 2) (words_at level t)
      → Carries s end f level at n k marks numbers sheet next (m + 1) (i + 1) marks₂ numbers₂ sheet₂
  run_token t next marks₂ numbers₂ sheet₂ e l j a b c first sheet₀ table₀ table inner whole g =
      (on_token level first sheet₀ table₀ s inner end f whole small m 0 i marks₁ numbers₁ sheet₁ table 0 true t (P.Between next) marks₂ numbers₂ sheet₂ l j a b c (P.Between here)
      (h first sheet₀ table₀ table inner whole g) (ap (seen_event true here) e)).0

  pub run_header : (next : ℕ) → sight_at s end f here ≡ given (met header) next → Carries s end f level at n k marks numbers sheet next m i marks₁ numbers₁ sheet₁
  run_header next e first sheet₀ table₀ table inner whole g =
      (on_moved level first sheet₀ table₀ s inner end f whole small m 0 i marks₁ numbers₁ sheet₁ table 0 true (P.Between here) (P.Between next)
      (h first sheet₀ table₀ table inner whole g) (ap (seen_event true here) e)).0

-- and of values: one more that holds no body
pub value_passed : (s : List ℕ) → length s ≤ 65536 → (place : ℕ) (v here : Values) → Passes s place v here → (x : ValueNext) → next_of s here ≡ gives (just x)
    → eqb x.value.code bin_xml ≡ false → Passes s place v x.rest
value_passed s small place v here h x e c level first sheet₀ table₀ inner end f whole n last k marks numbers sheet table g =
    (on_moved level first sheet₀ table₀ s inner end f whole small n last k marks numbers sheet table 0 true (P.Inside place here) (P.Inside place x.rest)
    (h level first sheet₀ table₀ inner end f whole n last k marks numbers sheet table g)
    (ap (value_event 0 place here) e
    ∙ ap (λ (b : Bool). pick b (pick (eqb 0 0) (E.Refused (refusal_of ninth_level x.value.start)) (E.Body (P.Inside place x.rest) x.value.start x.size)) (E.Moved (P.Inside place x.rest))) c)
    ).0
