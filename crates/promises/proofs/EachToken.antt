-- What holds of every token that is read at a place holds of every token of a walk. Assumes nothing.
use mathlib.Core.List.{List}
use Prim.Native.Nat.{ℕ, zero, suc, ◌+◌, ◌-◌}
use lib.Dec.{eqb, ltb}
use lib.ListN.{length}
use Rattle.cursor.specs.Answer.{Answer, given, refused, ◌then◌}
use Rattle.cursor.specs.Reads.{within, number_of}
use Rattle.cursor.proofs.Choice.{either}
use Rattle.tokens.specs.Table.{gist_at}
use Rattle.tokens.specs.Pieces.{met_token, turn_after_byte}
use Rattle.tokens.specs.Walk.{Met, handed, header, over, token_of, header_at, turn_at, onward, step_from, step_at, Walked, ok, bad, before, after, walk_from}
use Rattle.tokens.specs.declared.Flags.{Flags}
use Rattle.tokens.specs.declared.plain.Gist.{Gist}
use Rattle.tokens.specs.declared.Token.{Token}
use Rattle.tokens.proofs.Steps.{All}

-- what was read, if anything was
abbrev pub Of : {A : Type 0} → (A → Type 0) → Answer A → Type 0
Of Q (given x n) = Q x
Of Q (refused k p) = Unit {0}

-- whatever was read before
pub of_later : {A B : Type 0} (Q : B → Type 0) (a : Answer A) (f : A → ℕ → Answer B) → ((x : A) (n : ℕ) → Of Q (f x n)) → Of Q (a then f)
of_later Q (given x n) f g = g x n
of_later Q (refused k p) f g = tt {0}

-- the token of what was read at a place
abbrev pub OfToken : (Token → Type 0) → ℕ → Answer Gist → Type 0
OfToken Q place (given g n) = Q (token_of place g n)
OfToken Q place (refused k p) = Unit {0}

-- a token that the walk meets
abbrev OfMet : (Token → Type 0) → Met → Type 0
OfMet Q (handed t) = Q t
OfMet Q header = Unit {0}
OfMet Q over = Unit {0}

-- every token of a walk
abbrev pub AllOf : (Token → Type 0) → Walked → Type 0
AllOf Q (ok l) = All Q l
AllOf Q (bad k p) = Unit {0}

module _ (Q : Token → Type 0) where
  placed : (place : ℕ) (a : Answer Gist) → OfToken Q place a → Of (OfMet Q) (met_token place a)
  placed place (given g n) h = h
  placed place (refused k p) h = tt {0}

  onward_each : (x : Answer Met) (go : ℕ → Answer Met) → Of (OfMet Q) x → ((n : ℕ) → Of (OfMet Q) (go n)) → Of (OfMet Q) (onward x go)
  onward_each (given (handed t) n) go h g = h
  onward_each (given header n) go h g = g n
  onward_each (given over n) go h g = tt {0}
  onward_each (refused k p) go h g = tt {0}

  before_each : (t : Token) (w : Walked) → Q t → AllOf Q w → AllOf Q (before t w)
  before_each t (ok l) i h = (i, h)
  before_each t (bad k p) i h = tt {0}

  after_each : (x : Answer Met) (go : ℕ → Walked) → Of (OfMet Q) x → ((n : ℕ) → AllOf Q (go n)) → AllOf Q (after x go)
  after_each (given (handed t) n) go h g = before_each t (go n) h (g n)
  after_each (given header n) go h g = tt {0}
  after_each (given over n) go h g = tt {0}
  after_each (refused k p) go h g = tt {0}

  -- where it holds of what each byte begins
  module _ (s : List ℕ) (end : ℕ) (f : Flags) (read : (place : ℕ) → OfToken Q place (gist_at s f (number_of s place 1) (place + 1))) where
    byte_each : (at : ℕ) → Of (OfMet Q) (turn_after_byte s f at (number_of s at 1) (at + 1))
    byte_each at =
        let b = number_of s at 1 in
        either (Of (OfMet Q)) (eqb b 0x00) _ _ (λ e. tt {0})
        (λ e. either (Of (OfMet Q)) (eqb b 0x0F) _ _
        (λ e. of_later (OfMet Q) (header_at s (at + 1)) _ (λ _ m. tt {0}))
        (λ e. placed at (gist_at s f b (at + 1)) (read at)))

    turn_each : (at : ℕ) → Of (OfMet Q) (turn_at s end f at)
    unfolding turn_at
    turn_each at =
        either (Of (OfMet Q)) (ltb at end) _ _
        (λ w. either (λ a. Of (OfMet Q) (a then turn_after_byte s f at)) (within s at 1) _ _ (λ v. byte_each at) (λ v. tt {0}))
        (λ w. tt {0})

    step_each : (turns at : ℕ) → Of (OfMet Q) (step_from turns s end f at)
    unfolding step_from
    step_each zero at = tt {0}
    step_each (suc turns) at = onward_each (turn_at s end f at) (step_from turns s end f) (turn_each at) (step_each turns)

    pub walk_each : (steps at : ℕ) → AllOf Q (walk_from steps s end f at)
    unfolding walk_from
    walk_each zero at = tt {0}
    walk_each (suc steps) at =
        after_each (step_at s end f at) (walk_from steps s end f) (step_each (suc (length s - at)) at) (walk_each steps)
