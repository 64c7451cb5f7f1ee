-- The grammar's verdict on marks, as a call of its own: document 02, P9, "each inner body obeys demand 3 on its own".
use Rattle.std.specs.Prelude.{◌≡◌, true, List, ℕ, leb, length}
use Rattle.std.proofs.lemmas.List.Edits.{sets}
use Rattle.cursor.specs.Answer.{Result, gives, refuses, pick}
use Rattle.cursor.specs.Refusals.{wrong_length}
use Rattle.body.specs.Reader.{begin, words_from}
use Rattle.body.specs.Verdict.{Verdict, deepest}

-- how many tokens a verdict is on, or its refusal
abbrev pub count_of : Result (List ℕ) → Result ℕ
count_of (gives words) = gives (length words)
count_of (refuses k p) = refuses k p

-- a stream has at most 65,536 tokens: more marks are refused as a longer stream is
abbrev pub unless_long : {A : Type 0} → List ℕ → A → A → A
unless_long marks long a = pick (leb (length marks) 65536) a long

-- The verdict on marks, and the working words: those of a body stand there; a refusal leaves the words of the tokens before it, as the reader
-- has them
pub record MarksJudged (marks lent left : List ℕ) (o : Result ℕ) : Type 0 where
  pub verdict : Result (List ℕ)
  pub judged : Verdict marks verdict
  pub answer : o ≡ unless_long marks (refuses wrong_length 0) (count_of verdict)
  pub noted : left ≡ unless_long marks lent (sets lent 0 (words_from true deepest begin 0 marks))
