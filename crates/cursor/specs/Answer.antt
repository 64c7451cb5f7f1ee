-- What a call answers, in document 01's terms: what was read and the next position, or a refusal's number and place.
use Rattle.std.specs.Prelude.{Bool, true, false, ℕ}

pub data Answer (A : Type 0) : Type 0 where
  given : A → ℕ → Answer A
  refused : ℕ → ℕ → Answer A

-- what a call answers that leaves no position: what it says, or a refusal's number and place
pub data Result (A : Type 0) : Type 0 where
  gives : A → Result A
  refuses : ℕ → ℕ → Result A

-- something, or nothing of the kind
pub data Maybe (A : Type 0) : Type 0 where
  just : A → Maybe A
  nothing : Maybe A

-- what comes after a read: it goes on with what was read and the next position; a refusal stays as it is
infixl 20 ◌then◌
abbrev pub ◌then◌ : {A B : Type 0} → Answer A → (A → ℕ → Answer B) → Answer B
given a n then f = f a n
refused k p then f = refused k p

-- a test that a read must pass: where it holds the read goes on, and else it is refused, with a number and a place
abbrev pub must : Bool → ℕ → ℕ → Answer Unit
must true number place = given tt place
must false number place = refused number place

-- the first where the test holds, else the second
abbrev pub pick : {A : Type 0} → Bool → A → A → A
pick true a b = a
pick false a b = b
