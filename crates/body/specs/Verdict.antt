-- What accepting and refusing say. Document 01, "Refusals and their places" 13 to 16, and document 02, P5: "what it accepts, its "no
-- continuation" and its "some continuation" alike, is read over this narrower grammar, refusal 13 over the wide one". First by the grammar
-- alone, then with the walk before it, and last what a lent sheet and a lent table add.
use Rattle.std.specs.Prelude.{◌≡◌, List, [], ◌++◌, ℕ, suc, ◌≤◌, ◌<◌, length, take, get_or}
use Rattle.cursor.specs.Answer.{Result, gives, refuses}
use Rattle.cursor.specs.Lent.{laid, lent_answer}
use Rattle.cursor.specs.Refusals.{no_body_number, too_deep_number, unfinished, disagree}
use Rattle.tokens.specs.Token.{open_kind}
use Rattle.tokens.specs.Walk.{Walked, ok, bad}
use Rattle.tokens.specs.declared.Token.{Token}
use Rattle.sheet.specs.Sheet.{words_of, marks_of}
use Rattle.body.specs.Grammar.{kind_of, Rule, wide, narrow, Reading}

-- "levels limited to 64"
abbrev pub deepest : ℕ
deepest = 64

-- some body nested at most `limit` deep begins with these tokens: "continuations are of tokens, not bytes"
pub record Begins (rule : Rule) (limit : ℕ) (marks : List ℕ) : Type 0 where
  pub others : List ℕ
  pub words : List ℕ
  pub reading : Reading rule limit (marks ++ others) words

-- 13: "no body begins with the tokens through this one", "bodies of any depth count", by the wide grammar; and one begins with those before it
pub record NoBody (marks : List ℕ) (i : ℕ) : Type 0 where
  pub there : i < length marks
  pub before : Begins narrow deepest (take i marks)
  pub none : (limit : ℕ) → Begins wide limit (take (suc i) marks) → ⊥

-- 14: "opens level 65": an open token through which a body of 65 levels begins, but none of 64; and one of 64 begins with those before it.
-- So neither 13 nor 20 holds of it
pub record TooDeep (marks : List ℕ) (i : ℕ) : Type 0 where
  pub there : i < length marks
  pub before : Begins narrow deepest (take i marks)
  pub opens : kind_of (get_or marks i 0) ≡ open_kind
  pub deeper : Begins narrow (suc deepest) (take (suc i) marks)
  pub none : Begins narrow deepest (take (suc i) marks) → ⊥

-- 20: "attribute bit and attributes disagree": a body by the wide grammar begins with the tokens through this one, so that 13 does not hold
-- of it, but none in which bits and attributes agree, of any depth; and one of 64 levels begins with those before it
pub record Disagrees (marks : List ℕ) (i : ℕ) : Type 0 where
  pub there : i < length marks
  pub before : Begins narrow deepest (take i marks)
  pub levels : ℕ
  pub goes_on : Begins wide levels (take (suc i) marks)
  pub none : (limit : ℕ) → Begins narrow limit (take (suc i) marks) → ⊥

-- 15: "body unfinished": the tokens are no body of any depth, and a body of at most 64 levels begins with them
pub record Unfinished (marks : List ℕ) : Type 0 where
  pub none : (limit : ℕ) (words : List ℕ) → Reading narrow limit marks words → ⊥
  pub more : Begins narrow deepest marks

-- a refusal by the grammar: its number and its place. "the first token where 13, 14 or 20 holds counts, in that order; 15 and 16 come after"
pub data Refuses (marks : List ℕ) : ℕ → ℕ → Type 0 where
  no_body : (i : ℕ) → NoBody marks i → Refuses marks no_body_number i
  too_deep : (i : ℕ) → TooDeep marks i → Refuses marks too_deep_number i
  disagreeing : (i : ℕ) → Disagrees marks i → Refuses marks disagree i
  unfinished_body : Unfinished marks → Refuses marks unfinished (length marks)

-- The grammar's verdict on tokens: a body with the words of its owner table, or the refusal 13, 14, 20 or 15.
pub data Verdict (marks : List ℕ) : Result (List ℕ) → Type 0 where
  a_body : (words : List ℕ) → Reading narrow deepest marks words → Verdict marks (gives words)
  refused : (k p : ℕ) → Refuses marks k p → Verdict marks (refuses k p)

-- "Order: 1; then the walk's, first met; then 13, 14 or 15", and 20 among these: the verdict on a walk. No lent words are in it.
pub data Judged : Walked → Result (List ℕ) → Type 0 where
  unread : (k p : ℕ) → Judged (bad k p) (refuses k p)
  read : (l : List Token) (v : Result (List ℕ)) → Verdict (marks_of l) v → Judged (ok l) v

-- The words of a sheet and of an owner table: those that a body has, those that are lent, and what is left in these.
pub record Both : Type 0 where
  pub sheet : List ℕ
  pub table : List ℕ

abbrev pub both : List ℕ → List ℕ → Both
both sheet table = record { sheet = sheet; table = table }

-- the sheet's words of a walk
abbrev pub sheet_of : Walked → List ℕ
sheet_of (ok l) = words_of l
sheet_of (bad k p) = []

-- what a verdict has for the two: of a body the words of its tokens and of its owner table
abbrev pub both_with : List ℕ → Result (List ℕ) → Result Both
both_with sheet (gives owners) = gives (both sheet owners)
both_with sheet (refuses k p) = refuses k p

abbrev pub both_of : Walked → Result (List ℕ) → Result Both
both_of w verdict = both_with (sheet_of w) verdict

-- one answer after another: the first that refuses counts
abbrev pub followed : Result ℕ → Result ℕ → Result ℕ
followed (gives n) next = next
followed (refuses k p) next = refuses k p

-- Document 02, P8: "16 for the sheet, then 16 for the table, after the grammar's". The answer counts the table's words, one a token
abbrev pub both_answer : Result Both → Both → Result ℕ
both_answer (gives words) lent = followed (lent_answer (gives words.sheet) lent.sheet) (lent_answer (gives words.table) lent.table)
both_answer (refuses k p) lent = refuses k p

-- "one that fills both lent buffers"; "A refusal writes nothing", in neither. What both hold after an answer
abbrev pub written_by : Result ℕ → Both → Both → Both
written_by (gives n) words lent = both (laid words.sheet lent.sheet) (laid words.table lent.table)
written_by (refuses k p) words lent = lent

abbrev pub both_left : Result Both → Both → Both
both_left (gives words) lent = written_by (both_answer (gives words) lent) words lent
both_left (refuses k p) lent = lent

-- What the call answers for a walk, a lent sheet and a lent table, and what it leaves in both.
pub record Answered (lent left : Both) (w : Walked) (o : Result ℕ) : Type 0 where
  pub verdict : Result (List ℕ)
  pub judged : Judged w verdict
  pub answer : o ≡ both_answer (both_of w verdict) lent
  pub buffers : left ≡ both_left (both_of w verdict) lent
