-- What is promised of an event's rows. docs/EVENT.md.
use Rattle.std.specs.Prelude.{◌≡◌, Bool, true, List, [], ◌∷◌, ◌++◌, ℕ, suc, ◌+◌, ◌<◌, drop}
use Rattle.cursor.specs.Answer.{Result, gives}
use Rattle.tokens.specs.Instance.{values_of}
use Rattle.tokens.specs.Token.{substitution_kind}
use Rattle.tokens.specs.Walk.{ok, walk_at}
use Rattle.tokens.specs.declared.Instance.{Instance}
use Rattle.tokens.specs.declared.Token.{Token}
use Rattle.sheet.specs.Sheet.{mark_of, marks_of}
use Rattle.body.specs.Grammar.{narrow, Reading}
use Rattle.body.specs.Verdict.{deepest}
use Rattle.nest.specs.Nested.{deepest_body, inner_flags}
use Rattle.event.specs.Event.{Span, Text, text, is_item, definition_flags, definition_of, value_from, value_told, item_told, hung_at, row_with, root_at, bodies_at, event_of, Events}
use Rattle.event.specs.declared.text.Root.{Root}
use Rattle.event.specs.declared.text.Root.TheVariants as R
use Rattle.promises.specs.Nests.{Says}

-- "One answer, rows included."
abbrev pub OneEvent : Type 0
OneEvent =
    (s : List ℕ) (start len : ℕ) (inline : Bool) (lent left left' : List ℕ) (o o' : Result ℕ)
    → Events s start len inline lent left o → Events s start len inline lent left' o' → (o ≡ o') × (left ≡ left')

-- and one is allowed for every stream and rows
abbrev pub SomeEvent : Type 0
SomeEvent =
    (s : List ℕ) (start len : ℕ) (inline : Bool) (lent : List ℕ) → (o : Result ℕ) × ((left : List ℕ) × Events s start len inline lent left o)

-- words that are rows, one behind the other, of each of which something holds
pub data EachRow (P : List ℕ → Type 0) : List ℕ → Type 0 where
  no_row : EachRow P []
  a_row : {words : List ℕ} (row rest : List ℕ) → P row → EachRow P rest → words ≡ row ++ rest → EachRow P words

-- the owner table of tokens that are an element: the grammar has no other for them
abbrev pub OnlyTable : List Token → List ℕ → Type 0
OnlyTable l owners =
    Reading narrow deepest (marks_of l) owners × ((other : List ℕ) → Reading narrow deepest (marks_of l) other → other ≡ owners)

module _ (s : List ℕ) (inline : Bool) where
  -- Where the tokens of a text stand: those of an instance's text in the definition at its own offset, which is its own by the id; those of an
  -- element's in its own body
  abbrev pub Source : Span → Root → List Token → Type 0
  Source at (R.Instance i) l = (from : ℕ) × ((to : ℕ) × ((definition_of s i ≡ gives (from, to)) × (walk_at s to (definition_flags inline) from ≡ ok l)))
  Source at R.Element l = walk_at s at.end (inner_flags inline) at.start ≡ ok l

  -- The row of an item: of which body it is, in which text, and what it says
  pub record RowOf (bodies : List Span) (row : List ℕ) : Type 0 where
    pub body : ℕ
    pub at : Span
    pub is_body : drop body bodies ≡ at ∷ drop (suc body) bodies
    pub root : Root
    pub is_root : root ≡ root_at s inline at.end at.start
    pub tokens : List Token
    pub source : Source at root tokens
    pub owners : List ℕ
    pub table : OnlyTable tokens owners
    pub item : ℕ
    pub token : Token
    pub is_item_lem : (drop item tokens ≡ token ∷ drop (suc item) tokens) × (is_item (mark_of token) ≡ true)
    pub says : row ≡ row_with body item (hung_at (text tokens owners root) item) token (item_told s root token)

  -- A row that is a substitution's in the text of an instance: the words of its content are those of THIS instance's value of the
  -- substitution's number, and its element and attribute are those that the only owner table of the tokens at THIS instance's own offset gives
  pub record Own (i : Instance) (body item : ℕ) (t : Token) (row : List ℕ) : Type 0 where
    pub from : ℕ
    pub to : ℕ
    pub its_definition : definition_of s i ≡ gives (from, to)
    pub tokens : List Token
    pub walked : walk_at s to (definition_flags inline) from ≡ ok tokens
    pub owners : List ℕ
    pub table : OnlyTable tokens owners
    pub there : drop item tokens ≡ t ∷ drop (suc item) tokens
    pub below : t.number < i.count
    pub says : row ≡ row_with body item (hung_at (text tokens owners (R.Instance i)) item) t (value_told s (value_from s t.number (values_of i)))

  -- a row, and that it is its instance's own where it is a substitution's
  pub record OwnRow (bodies : List Span) (row : List ℕ) : Type 0 where
    pub of : RowOf bodies row
    pub own : (i : Instance) → of.root ≡ R.Instance i → of.token.kind ≡ substitution_kind → Own i of.body of.item of.token row

-- "No value is taken from another instance, and no name from another definition"
abbrev pub OwnOnly : Type 0
OwnOnly =
    (judge : List ℕ → Result (List ℕ)) → Says judge → (s : List ℕ) (inline : Bool) (start len : ℕ) (words : List ℕ)
    → event_of judge s inline start len ≡ gives words → EachRow (OwnRow s inline (bodies_at s inline deepest_body start (start + len))) words
