-- Samples of bodies inside values, with offset names, without dependencies, from the start and over the whole length. Document 02, P9.
use Rattle.std.specs.Prelude.{false, List, [], ◌∷◌, ◌++◌, ℕ, zero, suc, length}
use Rattle.cursor.specs.Answer.{Result, gives, refuses}
use Rattle.tokens.specs.declared.Flags.{Flags}
use Rattle.body.specs.Verdict.{Both, both}
use Rattle.nest.specs.Nested.{Nested}

abbrev pub offset_names : Flags
offset_names = record { dependencies = false; inline = false }

-- an instance with a value of type 21 of this size, up to the value; an element in ten bytes
abbrev holding : ℕ → List ℕ
holding size = 0x0C ∷ 0x01 ∷ 0x07 ∷ 0 ∷ 0 ∷ 0 ∷ 0 ∷ 0x02 ∷ 0 ∷ 0 ∷ 0x01 ∷ 0 ∷ 0 ∷ 0 ∷ size ∷ 0 ∷ 0x21 ∷ 0 ∷ []

abbrev element : List ℕ
element = 0x01 ∷ 0 ∷ 0 ∷ 0 ∷ 0 ∷ 0 ∷ 0x02 ∷ 0 ∷ 0 ∷ 0x03 ∷ []

abbrev one : ℕ → List ℕ
one size = holding size ++ (element ++ (0x00 ∷ []))

-- an instance with a body, a number of four bytes, and a body
abbrev three : List ℕ
three =
    0x0C ∷ 0x01 ∷ 0x07 ∷ 0 ∷ 0 ∷ 0 ∷ 0 ∷ 0x02 ∷ 0 ∷ 0 ∷ 0x03 ∷ 0 ∷ 0 ∷ 0 ∷ 0x0A ∷ 0 ∷ 0x21 ∷ 0 ∷ 0x04 ∷ 0 ∷ 0x08 ∷ 0 ∷ 0x0A ∷ 0 ∷ 0x21 ∷ 0
    ∷ (element ++ (0x01 ∷ 0x02 ∷ 0x03 ∷ 0x04 ∷ element))

-- so many instances, each in the value of the one before it
abbrev within : ℕ → List ℕ → List ℕ
within zero body = body
within (suc k) body = holding (length (within k body)) ++ within k body

-- a value of type 21 with an unknown token, and then a value of type 20
abbrev unknown : List ℕ
unknown = 0x0C ∷ 0x01 ∷ 0x07 ∷ 0 ∷ 0 ∷ 0 ∷ 0 ∷ 0x02 ∷ 0 ∷ 0 ∷ 0x02 ∷ 0 ∷ 0 ∷ 0 ∷ 0x01 ∷ 0 ∷ 0x21 ∷ 0 ∷ 0 ∷ 0 ∷ 0x20 ∷ 0 ∷ 0x10 ∷ []

abbrev four : List ℕ
four = 0 ∷ 0 ∷ 0 ∷ 0 ∷ []

abbrev six : List ℕ
six = 0 ∷ 0 ∷ four

-- a stream, what is lent, the answer, and what is left
pub record Sample : Type 0 where
  pub stream : List ℕ
  pub lent : Both
  pub answer : Result ℕ
  pub left : Both

abbrev accepted : List ℕ → Both → ℕ → Both → Sample
accepted stream lent n left = record { stream = stream; lent = lent; answer = gives n; left = left }

abbrev refused : List ℕ → Both → ℕ → ℕ → Sample
refused stream lent k p = record { stream = stream; lent = lent; answer = refuses k p; left = lent }

abbrev pub Holds : Sample → Type 0
Holds x = Nested x.stream 0 (length x.stream) offset_names x.lent x.left x.answer

abbrev pub All : List Sample → Type 0
All [] = Unit {0}
All (x ∷ l) = Holds x × All l

unfoldable pub samples : List Sample
samples =
    accepted (one 0x0B) (both six (0 ∷ 0 ∷ 0 ∷ [])) 3
    (both (0x1000_0000_7400_0000 ∷ 0 ∷ 0x2000_9000_2400_0010 ∷ 0x0000_0200_0000_0000 ∷ 0x4000_D800_0400_0010 ∷ 0 ∷ []) (0 ∷ 0 ∷ 2 ∷ []))
    ∷ accepted (one 0x0A) (both six (0 ∷ 0 ∷ 0 ∷ [])) 3
    (both (0x1000_0000_7000_0000 ∷ 0 ∷ 0x2000_9000_2400_0010 ∷ 0x0000_0200_0000_0000 ∷ 0x4000_D800_0400_0010 ∷ 0 ∷ []) (0 ∷ 0 ∷ 2 ∷ []))
    ∷ refused (one 0x09) (both six four) 15 2
    ∷ refused (one 0x08) (both six four) 29 18
    ∷ refused (one 0x00) (both six four) 15 1
    ∷ refused (one 0x0B ++ (0x05 ∷ 0x00 ∷ [])) (both six four) 13 3
    ∷ refused three (both (0 ∷ 0 ∷ 0 ∷ six) four) 16 10
    ∷ refused three (both (four ++ six) four) 16 5
    ∷ refused (within 9 element) (both six four) 21 162
    ∷ refused (within 8 element) (both six four) 16 20
    ∷ refused unknown (both six four) 9 23
    ∷ []
