-- Demand 3 as one statement: what the answer of the call for sheet and owner table says of a stream. Document 02, P8: "Demand 3 reads the
-- joined call, both buffers long enough."
use Rattle.std.specs.Prelude.{◌≡◌, List, ℕ, ◌≤◌, length}
use Rattle.cursor.specs.Answer.{Result, gives, refuses}
use Rattle.cursor.specs.Lent.{laid}
use Rattle.tokens.specs.Walk.{Walked, ok}
use Rattle.tokens.specs.declared.Token.{Token}
use Rattle.sheet.specs.Sheet.{words_of, marks_of}
use Rattle.body.specs.Grammar.{wide, narrow, Reading}
use Rattle.body.specs.Verdict.{deepest, Refuses, Both, both}

-- the tokens form a body by the grammar in which announced and present agree, nested at most 64 elements deep, and its owner table has these
-- words
abbrev pub FormsBody : List Token → List ℕ → Type 0
FormsBody l words = Reading narrow deepest (marks_of l) words

-- Of a stream with the tokens l, the lent sheet and table and what is left of them, and the answer, both having room.
pub record Decided (l : List Token) (lent left : Both) (o : Result ℕ) : Type 0 where
  -- it is accepted, with as many tokens as it has, where they form a body; and where it is accepted they form one
  pub accepts : (words : List ℕ) → FormsBody l words → o ≡ gives (length l)
  pub only_bodies : (n : ℕ) → o ≡ gives n → (n ≡ length l) × ((words : List ℕ) × FormsBody l words)
  -- a body has one owner table
  pub one_reading : (u v : List ℕ) → FormsBody l u → FormsBody l v → u ≡ v
  -- by the wide grammar it is a body too, and has no other table there, whatever the limit of levels
  pub in_wide : (u : List ℕ) → FormsBody l u → Reading wide deepest (marks_of l) u
  pub one_wide_table : (limit : ℕ) (u v : List ℕ) → FormsBody l u → Reading wide limit (marks_of l) v → u ≡ v
  -- the lent sheet then begins with the words of the tokens, and the lent table with that table; the words past them stay
  pub buffers : (words : List ℕ) → FormsBody l words → left ≡ both (laid (words_of l) lent.sheet) (laid words lent.table)
  -- where they form none it is refused: 13, 14, 20 or 15 as body/specs/Verdict.antt says what each means, and nothing is written
  pub otherwise : ((words : List ℕ) → FormsBody l words → ⊥)
      → (k : ℕ) × ((p : ℕ) × ((o ≡ refuses k p) × Refuses (marks_of l) k p × (left ≡ lent)))
  -- with a number and a place exactly where they are the grammar's
  pub refuses_as : (k p : ℕ) → Refuses (marks_of l) k p → o ≡ refuses k p
  pub only_refusals : (k p : ℕ) → o ≡ refuses k p → Refuses (marks_of l) k p

-- The n tokens of a walk form a body, and a lent sheet and a lent table have both room for it.
pub record Accepted (w : Walked) (lent : Both) (n : ℕ) : Type 0 where
  pub tokens : List Token
  pub owners : List ℕ
  pub walked : w ≡ ok tokens
  pub count : length tokens ≡ n
  pub body : FormsBody tokens owners
  pub sheet_room : length (words_of tokens) ≤ length lent.sheet
  pub table_room : length tokens ≤ length lent.table

-- for every walk, lent sheet and table, answer and what is left of the two
pub record DemandThree (w : Walked) (lent left : Both) (o : Result ℕ) : Type 0 where
  -- accepted with n tokens exactly when the tokens form a body, the sheet and the table both having room
  pub only_where : (n : ℕ) → o ≡ gives n → Accepted w lent n
  pub wherever : (n : ℕ) → Accepted w lent n → o ≡ gives n
  -- and sheet and table are then the only ones
  pub only_ones : (n : ℕ) (a : Accepted w lent n) → left ≡ both (laid (words_of a.tokens) lent.sheet) (laid a.owners lent.table)
  -- a refusal, whatever it is, leaves both as they were
  pub unwritten : (k p : ℕ) → o ≡ refuses k p → left ≡ lent
  -- of a stream that the walk reads, "both buffers long enough"
  pub decides : (l : List Token) → w ≡ ok l → length (words_of l) ≤ length lent.sheet → length l ≤ length lent.table → Decided l lent left o
