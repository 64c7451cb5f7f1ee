-- What is promised of bodies inside values. Document 02, P9.
use Rattle.std.specs.Prelude.{◌≡◌, List, [], ◌∷◌, ℕ, suc, ◌+◌, ◌*◌, ◌≤◌, ◌<◌, length}
use Rattle.cursor.specs.Answer.{given, Result, gives}
use Rattle.cursor.specs.Reads.{number_of}
use Rattle.tokens.specs.Sight.{begun, sight_at}
use Rattle.tokens.specs.Walk.{handed, header, turn_at, walk_of}
use Rattle.tokens.specs.declared.Flags.{Flags}
use Rattle.tokens.specs.declared.Instance.{Instance}
use Rattle.tokens.specs.declared.Token.{Token}
use Rattle.body.specs.Verdict.{Verdict, Both, Answered}
use Rattle.nest.specs.Nested.{bin_xml, Entry, nested_of, Nested}

-- a judge that says of each list of marks what demand 3 says
abbrev pub Says : (List ℕ → Result (List ℕ)) → Type 0
Says judge = (marks : List ℕ) → Verdict marks (judge marks)

-- "Any two answers with both buffers are equal." So where it refuses, number and place are the definition's (`nested_of`), which reads in the
-- order of the bytes and stops at the first refusal; the grammar's are those of `Verdict` over the body's own tokens, renumbered.
abbrev pub OneNested : Type 0
OneNested =
    (s : List ℕ) (start len : ℕ) (f : Flags) (lent left left' : Both) (o o' : Result ℕ)
    → Nested s start len f lent left o → Nested s start len f lent left' o' → (o ≡ o') × (left ≡ left')

-- and one is allowed for every stream and buffers
abbrev pub SomeNested : Type 0
SomeNested =
    (s : List ℕ) (start len : ℕ) (f : Flags) (lent : Both) → (o : Result ℕ) × ((left : Both) × Nested s start len f lent left o)

-- which judge is asked does not matter, and there is one: "every judge" leaves nothing open
abbrev pub OneJudge : Type 0
OneJudge =
    ((judge : List ℕ → Result (List ℕ)) × Says judge)
    × ((judge other : List ℕ → Result (List ℕ)) → Says judge → Says other
    → (s : List ℕ) (start len : ℕ) (f : Flags) → nested_of judge s start len f ≡ nested_of other s start len f)

-- the places of these tokens rise strictly: none is before `low`, each is after the one before it, and all are before `high`
abbrev pub Rises : ℕ → ℕ → List Entry → Type 0
Rises low high [] = Unit {0}
Rises low high (e ∷ l) = (low ≤ e.token.place) × (e.token.place < high) × Rises (suc e.token.place) high l

-- "In the list numbered through, places rise strictly", from the walk's start on and within the stream, "so there are at most 65,536 tokens"
abbrev pub PlacesRise : Type 0
PlacesRise =
    (judge : List ℕ → Result (List ℕ)) (s : List ℕ) (start len : ℕ) (f : Flags) (l : List Entry) → nested_of judge s start len f ≡ gives l
    → Rises start (length s) l × (length l ≤ 65536)

-- where the walk of a window stands, turn after turn
pub data Reached (s : List ℕ) (end : ℕ) (f : Flags) (start : ℕ) : ℕ → Type 0 where
  at_start : Reached s end f start start
  after_token : {at next : ℕ} (t : Token) → Reached s end f start at → turn_at s end f at ≡ given (handed t) next → Reached s end f start next
  after_header : {at next : ℕ} → Reached s end f start at → turn_at s end f at ≡ given header next → Reached s end f start next

-- "no instance has a value of type 21": of those that the walk comes to, by the types in its table
abbrev pub NoneHeld : List ℕ → ℕ → ℕ → Type 0
NoneHeld s table count = (k : ℕ) → k < count → number_of s (table + 4 * k + 2) 1 ≡ bin_xml → ⊥

abbrev pub NoBodies : List ℕ → ℕ → Flags → ℕ → Type 0
NoBodies s end f start =
    (at : ℕ) → Reached s end f start at → (i : Instance) (next : ℕ) → sight_at s end f at ≡ given (begun i) next → NoneHeld s i.table i.count

-- "Where no instance has a value of type 21, answer, sheet and table are P8's.": what is allowed here is what P8's call is allowed, and no more
abbrev pub NothingNew : Type 0
NothingNew =
    (s : List ℕ) (start len : ℕ) (f : Flags) (lent left : Both) (o : Result ℕ) → NoBodies s (start + len) f start
    → (Nested s start len f lent left o → Answered lent left (walk_of s start len f) o)
    × (Answered lent left (walk_of s start len f) o → Nested s start len f lent left o)
