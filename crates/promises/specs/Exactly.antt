-- Where 20 falls. Document 02, P5: "An open byte of 01 followed by an attribute is refused at the attribute; 41 followed by a close without
-- any is refused at that close token."
use Rattle.std.specs.Prelude.{◌≡◌, true, false, List, ℕ, suc, ◌<◌, length, take, get_or}
use Rattle.cursor.specs.Refusals.{disagree}
use Rattle.tokens.specs.Token.{open_kind, attribute_kind, close_start_kind, close_empty_kind}
use Rattle.body.specs.Grammar.{narrow, announces, kind_of}
use Rattle.body.specs.Verdict.{deepest, Begins, Refuses}

-- token i is an attribute right after an open token that announces none, or a close empty or a close start right after one that announces some
pub data Mismatch (marks : List ℕ) : ℕ → Type 0 where
  not_announced : (j : ℕ) → kind_of (get_or marks j 0) ≡ open_kind → announces (get_or marks j 0) ≡ false → kind_of (get_or marks (suc j) 0) ≡ attribute_kind
      → Mismatch marks (suc j)
  none_before_empty : (j : ℕ) → kind_of (get_or marks j 0) ≡ open_kind → announces (get_or marks j 0) ≡ true → kind_of (get_or marks (suc j) 0) ≡ close_empty_kind
      → Mismatch marks (suc j)
  none_before_start : (j : ℕ) → kind_of (get_or marks j 0) ≡ open_kind → announces (get_or marks j 0) ≡ true → kind_of (get_or marks (suc j) 0) ≡ close_start_kind
      → Mismatch marks (suc j)

-- 20 falls on such a token only; and on each such token where a body of at most 64 levels begins with the tokens before it
pub record Exactly (marks : List ℕ) (i : ℕ) : Type 0 where
  pub only_there : Refuses marks disagree i → Mismatch marks i
  pub always_there : i < length marks → Begins narrow deepest (take i marks) → Mismatch marks i → Refuses marks disagree i
