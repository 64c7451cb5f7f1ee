-- What a turn that leaves an instance's values sees: where it ends. Assumes nothing.
use mathlib.Core.Path.{◌≡◌, refl, sym, ap, subst, ◌∙◌}
use mathlib.Core.Bool.{Bool, true, false, ◌&&◌}
use mathlib.Core.List.{List}
use Prim.Native.Nat.{ℕ, zero, suc, ◌+◌, ◌*◌, ◌≤◌, ◌<◌}
use native.Mathlib.Omega.{arith}
use borrow.Author.Tests.{ltb-true, ltb-false}
use lib.Dec.{eqb, ltb}
use lib.ListN.{length}
use Rattle.cursor.specs.Answer.{Answer, given, refused, ◌then◌, pick}
use Rattle.cursor.specs.Reads.{within, number_of, number_at}
use Rattle.cursor.proofs.Choice.{either}
use Rattle.value.proofs.Bounds.{Between}
use Rattle.tokens.specs.Instance.{definition_at, table_at, instance_head_at}
use Rattle.tokens.specs.Pieces.{turn_after_byte, met_header, met_token, sight_of_head, sight_of_turn, head_after_count}
use Rattle.tokens.specs.Sight.{Seen, begun, met, instance_there, sight_at}
use Rattle.tokens.specs.Table.{gist_at}
use Rattle.tokens.specs.Walk.{Met, handed, header, over, header_at, turn_at}
use Rattle.tokens.specs.declared.Flags.{Flags}
use Rattle.tokens.specs.declared.Instance.{Instance}
use Rattle.tokens.specs.declared.plain.Gist.{Gist}
use Rattle.tokens.proofs.Reach.{Grows, turn_grows, head}
use Rattle.tokens.proofs.Runs.{TableStands, head_stands}

-- where an instance's byte stands a token may begin
first : (a b : Bool) → (a && b) ≡ true → a ≡ true
first true b e = refl
first false b e = e

pub there_before : (s : List ℕ) (end at : ℕ) → instance_there s end at ≡ true → at < end
there_before s end at e = ltb-true at end (first (ltb at end) (eqb (number_of s at 1) 0x0C) e)

-- a walk's end is not before where it stood
abbrev Later : ℕ → Answer Met → Type 0
Later at (given (handed t) n) = Unit {0}
Later at (given header n) = Unit {0}
Later at (given over n) = at ≤ n
Later at (refused k p) = Unit {0}

token_later : (at place : ℕ) (a : Answer Gist) → Later at (met_token place a)
token_later at place (given g n) = tt {0}
token_later at place (refused k p) = tt {0}

header_later : (at : ℕ) (a : Answer Unit) → Later at (met_header a)
header_later at (given g n) = tt {0}
header_later at (refused k p) = tt {0}

turn_later : (s : List ℕ) (end : ℕ) (f : Flags) (at : ℕ) → Later at (turn_at s end f at)
unfolding turn_at
turn_later s end f at =
    either (Later at) (ltb at end) _ _
    (λ w. either (λ a. Later at (a then turn_after_byte s f at)) (within s at 1) _ _
    (λ v. either (Later at) (eqb (number_of s at 1) 0x00) _ _ (λ e. omega arith)
    (λ e. either (Later at) (eqb (number_of s at 1) 0x0F) _ _
    (λ e. header_later at (header_at s (at + 1)))
    (λ e. token_later at at (gist_at s f (number_of s at 1) (at + 1)))))
    (λ v. tt {0}))
    (λ w. omega arith)

-- a head's values start where it ends
abbrev EndsAtValues : Answer Instance → Type 0
EndsAtValues (given i n) = i.values ≡ n
EndsAtValues (refused k p) = Unit {0}

ends_after : {A : Type 0} (a : Answer A) (f : A → ℕ → Answer Instance) → ((x : A) (n : ℕ) → EndsAtValues (f x n)) → EndsAtValues (a then f)
ends_after (given x n) f g = g x n
ends_after (refused k p) f g = tt {0}

head_ends : (s : List ℕ) (at : ℕ) → EndsAtValues (instance_head_at s at)
head_ends s at =
    ends_after (number_at s at 1) _ (λ _ n.
    ends_after (number_at s n 4) _ (λ id m.
    ends_after (number_at s m 4) _ (λ offset e.
    ends_after (definition_at s offset e) _ (λ guid z.
    ends_after (number_at s z 4) _ (λ count table.
    ends_after (table_at s table count) _ (λ _ values. refl))))))

-- what is seen from a position: a token or a header ends after it, and within the stream; an instance's head too, and its table stands in
-- the stream; the walk's end is not before it
abbrev pub Sees : ℕ → ℕ → Answer Seen → Type 0
Sees at high (given (begun i) n) = (at < n) × (n ≤ high) × (i.table + 4 * i.count ≤ high) × (i.values ≡ n)
Sees at high (given (met (handed t)) n) = (at < n) × (n ≤ high)
Sees at high (given (met header) n) = (at < n) × (n ≤ high)
Sees at high (given (met over) n) = at ≤ n
Sees at high (refused k p) = Unit {0}

head_sees : (at high : ℕ) (a : Answer Instance) → Between (at + 1) high a → TableStands high a → EndsAtValues a → Sees at high (sight_of_head a)
head_sees at high (given i n) b t e = (omega (arith, b.0), b.1, t.0, e)
head_sees at high (refused k p) b t e = tt {0}

turn_sees : (at high : ℕ) (a : Answer Met) → Grows at high a → Later at a → Sees at high (sight_of_turn a)
turn_sees at high (given (handed t) n) g l = (omega (arith, g.0, g.1), g.2)
turn_sees at high (given header n) g l = (g.0, g.1)
turn_sees at high (given over n) g l = l
turn_sees at high (refused k p) g l = tt {0}

pub sight_sees : (s : List ℕ) (end : ℕ) (f : Flags) (at : ℕ) → Sees at (length s) (sight_at s end f at)
sight_sees s end f at =
    either (Sees at (length s)) (instance_there s end at) _ _
    (λ e. head_sees at (length s) (instance_head_at s (at + 1)) (head s (at + 1)) (head_stands s (at + 1)) (head_ends s (at + 1)))
    (λ e. turn_sees at (length s) (turn_at s end f at) (turn_grows s end f at) (turn_later s end f at))
