-- The token walk's lines. docs/ANSWERS.md, mode T.
use Rattle.std.specs.Prelude.{List, [], ◌∷◌, ◌++◌, ℕ}
use Rattle.cursor.specs.Answer.{Result, gives, refuses}
use Rattle.tokens.specs.Walk.{window_of, walk_of, counted_of}
use Rattle.tokens.specs.declared.Flags.{Flags}
use Rattle.tokens.specs.declared.Token.{Token}
use Rattle.sheet.specs.Sheet.{read_at}
use Rattle.print.specs.Text.{ascii, each, line_of, refused_of}
use Rattle.stream_answers.specs.Token.{token_text}

-- 'A line a token'
abbrev pub tokens_text : List ℕ → List Token → List ℕ
tokens_text s l = each (token_text s) l

-- 'Last `ok` and the count of tokens, or `refused` number place'
abbrev pub last_text : Result ℕ → List ℕ
last_text (gives n) = line_of (ascii "ok") (n ∷ [])
last_text (refuses k p) = refused_of (record { number = k; place = p })

-- 'the tokens before a refusal are listed': none where the stream's length or the start is refused
abbrev pub listed_in : List ℕ → Flags → Result (ℕ × ℕ) → List Token
listed_in s f (gives (start, end)) = read_at s end f start
listed_in s f (refuses k p) = []

abbrev pub walk_text : List ℕ → ℕ → ℕ → Flags → List ℕ
walk_text s start len f = tokens_text s (listed_in s f (window_of s start len)) ++ last_text (counted_of (walk_of s start len f))
