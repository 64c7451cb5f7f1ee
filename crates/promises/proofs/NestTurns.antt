-- A turn of the walk is what is seen, and then an instance's values. Assumes nothing.
use mathlib.Core.Path.{◌≡◌, refl, ap, ◌∙◌}
use mathlib.Core.Bool.{Bool, true, false, ◌&&◌}
use mathlib.Core.List.{List}
use Prim.Native.Nat.{ℕ, ◌+◌, ◌≤◌}
use native.Mathlib.Omega.{arith}
use native.Mathlib.Decide.{dec_lt}
use borrow.Author.Tests.{leb-true, le-leb, eqb-true}
use lib.Dec.{eqb, ltb}
use lib.ListN.{length}
use Rattle.cursor.specs.Answer.{Answer, given, refused, ◌then◌, pick}
use Rattle.cursor.specs.Reads.{within, number_of, number_at}
use Rattle.cursor.proofs.Choice.{either}
use Rattle.cursor.proofs.Numbers.{number_none}
use Rattle.tokens.specs.Instance.{instance_head_at, values_at, instance_at}
use Rattle.tokens.specs.Pieces.{turn_after_byte, met_header, met_token, sight_of_head, sight_of_turn}
use Rattle.tokens.specs.Sight.{Seen, begun, met, instance_there, sight_at}
use Rattle.tokens.specs.Table.{gist_at}
use Rattle.tokens.specs.Token.{instance_kind, gist}
use Rattle.tokens.specs.Walk.{Met, handed, header, over, header_at, token_of, turn_at}
use Rattle.tokens.specs.declared.Flags.{Flags}
use Rattle.tokens.specs.declared.Held.TheVariants as H
use Rattle.tokens.specs.declared.Instance.{Instance}
use Rattle.tokens.specs.declared.plain.Gist.{Gist}
use Rattle.tokens.specs.declared.Token.{Token}

-- an instance's token, from its place to where its values end
abbrev pub instance_of : Instance → ℕ → ℕ → Token
instance_of i place last = token_of place (gist instance_kind 0 false (H.Instance i)) last

-- what a turn meets, of what is seen
abbrev pub wholly : List ℕ → ℕ → Seen → ℕ → Answer Met
wholly s place (met m) next = given m next
wholly s place (begun i) next = values_at s i.table next i.count then λ _ last. given (handed (instance_of i place last)) last

turn_whole : (s : List ℕ) (place : ℕ) (a : Answer Met) → a ≡ (sight_of_turn a then wholly s place)
turn_whole s place (given m n) = refl
turn_whole s place (refused k p) = refl

values_whole : (place : ℕ) (i : Instance) (a : Answer Unit)
    → met_token place (a then λ _ at. given (gist instance_kind 0 false (H.Instance i)) at) ≡ (a then λ _ last. given (handed (instance_of i place last)) last)
values_whole place i (given x n) = refl
values_whole place i (refused k p) = refl

head_whole : (s : List ℕ) (place : ℕ) (a : Answer Instance)
    → met_token place (a then λ i at. values_at s i.table at i.count then λ _ at. given (gist instance_kind 0 false (H.Instance i)) at)
    ≡ (sight_of_head a then wholly s place)
head_whole s place (given i n) = values_whole place i (values_at s i.table n i.count)
head_whole s place (refused k p) = refl

-- the byte of an instance
byte_instance : (s : List ℕ) (f : Flags) (place b at : ℕ) → b ≡ 0x0C → turn_after_byte s f place b at ≡ met_token place (instance_at s at)
unfolding gist_at
byte_instance s f place b at e = ap (λ (x : ℕ). turn_after_byte s f place x at) e

both_hold : (a b : Bool) → (a && b) ≡ true → (a ≡ true) × (b ≡ true)
both_hold true b e = (refl, e)
both_hold false b e = (e, let z : ◌≡◌ {A = ℕ} 0 1 = cc in absurd (omega arith))

module _ (s : List ℕ) (end : ℕ) (f : Flags) (at : ℕ) where
  has_byte : number_of s at 1 ≡ 0x0C → at + 1 ≤ length s
  has_byte e = elim (dec_lt at (length s)) [ yes h ↦ omega arith | no h ↦ absurd (omega (arith, number_none s at 1 (omega arith), e)) ]

  -- where an instance's byte stands
  pub there_byte : instance_there s end at ≡ true → (number_of s at 1 ≡ 0x0C) × (at + 1 ≤ length s)
  there_byte e =
      let b = eqb-true (number_of s at 1) 0x0C (both_hold (ltb at end) (eqb (number_of s at 1) 0x0C) e).1 in
      (b, has_byte b)

  instance_turn : instance_there s end at ≡ true → turn_at s end f at ≡ met_token at (instance_at s (at + 1))
  unfolding turn_at
  instance_turn e =
      let h = both_hold (ltb at end) (eqb (number_of s at 1) 0x0C) e in
      let b = there_byte e in
      ap (λ (x : Bool). pick x (number_at s at 1 then turn_after_byte s f at) (given over at)) h.0
      ∙ ap (λ (x : Bool). pick x (given (number_of s at 1) (at + 1)) (refused 3 at) then turn_after_byte s f at) (le-leb (at + 1) (length s) b.1)
      ∙ byte_instance s f at (number_of s at 1) (at + 1) b.0

  -- a turn: what is seen, and then the values
  pub turn_sight : turn_at s end f at ≡ (sight_at s end f at then wholly s at)
  turn_sight =
      either (λ (x : Answer Seen). turn_at s end f at ≡ (x then wholly s at)) (instance_there s end at) _ _
      (λ e. instance_turn e ∙ head_whole s at (instance_head_at s (at + 1)))
      (λ e. turn_whole s at (turn_at s end f at))

  pub turn_met : (m : Met) (next : ℕ) → sight_at s end f at ≡ given (met m) next → turn_at s end f at ≡ given m next
  turn_met m next e = turn_sight ∙ ap (λ (x : Answer Seen). x then wholly s at) e

  pub turn_begun : (i : Instance) (next last : ℕ) → sight_at s end f at ≡ given (begun i) next → values_at s i.table next i.count ≡ given tt last
      → turn_at s end f at ≡ given (handed (instance_of i at last)) last
  turn_begun i next last e v =
      turn_sight ∙ ap (λ (x : Answer Seen). x then wholly s at) e
      ∙ ap (λ (x : Answer Unit). x then λ _ last. given (handed (instance_of i at last)) last) v

-- the walk's end is not past the stream's
abbrev pub Ends : ℕ → Answer Met → Type 0
Ends high (given (handed t) n) = Unit {0}
Ends high (given header n) = Unit {0}
Ends high (given over n) = n ≤ high
Ends high (refused k p) = Unit {0}

token_ends : (place high : ℕ) (a : Answer Gist) → Ends high (met_token place a)
token_ends place high (given g n) = tt {0}
token_ends place high (refused k p) = tt {0}

header_ends : (high : ℕ) (a : Answer Unit) → Ends high (met_header a)
header_ends high (given g n) = tt {0}
header_ends high (refused k p) = tt {0}

pub turn_ends : (s : List ℕ) (end : ℕ) (f : Flags) (at : ℕ) → at ≤ length s → Ends (length s) (turn_at s end f at)
unfolding turn_at
turn_ends s end f at h =
    let P = Ends (length s) in
    either P (ltb at end) _ _
    (λ w. either (λ a. P (a then turn_after_byte s f at)) (within s at 1) _ _
    (λ v. either P (eqb (number_of s at 1) 0x00) _ _ (λ e. leb-true (at + 1) (length s) v)
    (λ e. either P (eqb (number_of s at 1) 0x0F) _ _
    (λ e. header_ends (length s) (header_at s (at + 1)))
    (λ e. token_ends at (length s) (gist_at s f (number_of s at 1) (at + 1)))))
    (λ v. tt {0}))
    (λ w. h)
