-- What document 02's P3 promises of a kept sheet.
use Rattle.std.specs.Prelude.{◌≡◌, List, ℕ, suc, ◌≤◌, length, take}
use Rattle.cursor.specs.Answer.{gives}
use Rattle.cursor.specs.Lent.{laid}
use Rattle.tokens.specs.Walk.{Walked, ok}
use Rattle.tokens.specs.declared.Token.{Token}
use Rattle.sheet.specs.Kept.{kept_answer, kept_words}

-- "the first word wrong, missing or extra": the words before it are right, and with it they are not
abbrev pub FirstWrong : List ℕ → List ℕ → ℕ → Type 0
FirstWrong right kept p = (take p kept ≡ take p right) × (take (suc p) kept ≡ take (suc p) right → ⊥)

-- a sheet that is accepted "must be exactly the sheet of that stream", and then the lent words hold the other form, n tokens of it
pub record OnlyItsSheet (from to : List Token → List ℕ) (w : Walked) (kept lent : List ℕ) (n : ℕ) : Type 0 where
  pub tokens : List Token
  pub walked : w ≡ ok tokens
  pub count : length tokens ≡ n
  pub equal : kept ≡ from tokens
  pub room : length (to tokens) ≤ length lent
  pub left : kept_words from to w kept lent ≡ laid (to tokens) lent

-- "Old to new to old gives equal words, and so does new to old to new": of n tokens the one call has left so many words in `lent`, and they give
-- the sheet back, in any words that have room for it
abbrev pub Back : (from to : List Token → List ℕ) → ℕ → Walked → List ℕ → List ℕ → List ℕ → ℕ → Type 0
Back from to words w kept lent other n =
    (kept_answer to from w (take words (kept_words from to w kept lent)) other ≡ gives n)
    × (take (length kept) (kept_words to from w (take words (kept_words from to w kept lent)) other) ≡ kept)
