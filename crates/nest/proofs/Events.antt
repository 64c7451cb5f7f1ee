-- An event's case and its parts: events of two cases are not the same. Assumes nothing.
use mathlib.Core.Path.{◌≡◌, ap}
use Prim.Native.Nat.{ℕ}
use Rattle.tokens.specs.declared.Token.{Token}
use Rattle.nest.specs.declared.inner.Event.{Event}
use Rattle.nest.specs.declared.inner.Event.TheVariants as E
use Rattle.nest.specs.declared.inner.Place.{Place}

-- an event's case, by a number
abbrev case_of : Event → ℕ
case_of (E.Token to t) = 0
case_of (E.Body to at size) = 1
case_of (E.Ended to t) = 2
case_of (E.Moved to) = 3
case_of (E.Over to) = 4
case_of (E.Refused r) = 5

pub differs : {A : Type 0} (x y : Event) → x ≡ y → (case_of x ≡ case_of y → ⊥) → A
differs x y e n = absurd (n (ap case_of e))

-- the parts of an event
pub token_parts : (t u : Token) (to at : Place) → E.Token to t ≡ E.Token at u → (t ≡ u) × (to ≡ at)
token_parts t u to at e = (cc, cc)

pub body_parts : (a b x y : ℕ) (to at : Place) → E.Body to a x ≡ E.Body at b y → (a ≡ b) × (x ≡ y) × (to ≡ at)
body_parts a b x y to at e = (cc, cc, cc)
