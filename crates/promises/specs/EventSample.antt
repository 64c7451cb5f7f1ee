-- A stream that is an event, so that what is said of accepted events is said of something: two instances of one definition, an element that holds
-- substitution 0, the second instance in the first one's value 0. docs/EVENT.md.
use Rattle.std.specs.Prelude.{false, List, [], ◌∷◌, ◌++◌, ℕ, ◌+◌, ◌*◌, ◌^◌, length}
use Rattle.cursor.specs.Answer.{gives}
use Rattle.event.specs.Event.{Events}

-- an instance's byte, its id 7, and its definition's offset 10
abbrev begins : List ℕ
begins = 0x0C ∷ 0x01 ∷ 0x07 ∷ 0 ∷ 0 ∷ 0 ∷ 0x0A ∷ 0 ∷ 0 ∷ 0 ∷ []

-- the definition: its GUID's first word is 7, and it has 18 bytes of tokens, in which the name stands at 2
abbrev definition : List ℕ
definition =
    0 ∷ 0 ∷ 0 ∷ 0 ∷ 0x07 ∷ 0 ∷ 0 ∷ 0 ∷ 0 ∷ 0 ∷ 0 ∷ 0 ∷ 0 ∷ 0 ∷ 0 ∷ 0 ∷ 0 ∷ 0 ∷ 0 ∷ 0 ∷ 0x12 ∷ 0 ∷ 0 ∷ 0 ∷ 0x01 ∷ 0xFF ∷ 0xFF ∷ 0 ∷ 0 ∷ 0 ∷ 0 ∷ 0x02 ∷ 0 ∷ 0 ∷ 0 ∷ 0x02 ∷ 0x0D ∷ 0 ∷ 0
    ∷ 0x04 ∷ 0x04 ∷ 0x00 ∷ []

-- one value of this size and type
abbrev one : ℕ → ℕ → List ℕ
one size code = 0x01 ∷ 0 ∷ 0 ∷ 0 ∷ size ∷ 0 ∷ code ∷ 0 ∷ []

abbrev pub event : List ℕ
event = begins ++ (definition ++ (one 0x13 0x21 ++ (begins ++ (one 0x01 0x04 ++ (42 ∷ [])))))

-- token 2 of each text, in the element of token 0 with the name at 2: a substitution, which stands for 19 bytes of type 21 at 60 in the outer
-- instance's text, and for 42, a byte of type 04 at 78, in the inner one's
abbrev pub rows : List ℕ
rows =
    2 ∷ 0 ∷ (2 * 2 ^ 32) ∷ (13 * 2 ^ 32 + 0x21 * 2 ^ 16) ∷ (60 * 2 ^ 32 + 19) ∷ 0 ∷ (2 ^ 32 + 2) ∷ 0 ∷ (2 * 2 ^ 32) ∷ (13 * 2 ^ 32 + 0x04 * 2 ^ 16)
    ∷ (78 * 2 ^ 32 + 1) ∷ 42 ∷ []

abbrev pub lent : List ℕ
lent = 9 ∷ 9 ∷ 9 ∷ 9 ∷ 9 ∷ 9 ∷ 9 ∷ 9 ∷ 9 ∷ 9 ∷ 9 ∷ 9 ∷ 9 ∷ []

-- it is accepted with these two rows, and the word behind them stays
abbrev pub TwoRows : Type 0
TwoRows = Events event 0 (length event) false lent (rows ++ (9 ∷ [])) (gives 2)
