-- In an accepted event no substitution's value is missing. docs/EVENT.md: "In an instance's text the substitution with number m stands for the
-- instance's value m; m not below the count is 32 at the substitution's place."
use Rattle.std.specs.Prelude.{◌≡◌, Bool, List, ℕ, ◌+◌, ◌*◌, ◌<◌, length}
use Rattle.cursor.specs.Answer.{given, gives, just}
use Rattle.cursor.specs.Lent.{laid}
use Rattle.value.specs.declared.Value.{Value}
use Rattle.tokens.specs.Instance.{values_at, values_of}
use Rattle.tokens.specs.Sight.{begun, sight_at}
use Rattle.tokens.specs.Token.{substitution_kind}
use Rattle.tokens.specs.declared.Flags.{Flags}
use Rattle.tokens.specs.declared.Instance.{Instance}
use Rattle.tokens.specs.declared.Token.{Token}
use Rattle.nest.specs.Nested.{deepest_body}
use Rattle.event.specs.Accepted.{Each}
use Rattle.event.specs.Event.{Span, text, value_from, stood_for, content_told, hung_at, row_with, words_per_row, root_at, bodies_at, Events}
use Rattle.event.specs.declared.text.Root.TheVariants as R
use Rattle.promises.specs.EventRows.{EachRow, Source, RowOf, OwnRow}

-- all values of an instance are there: one of each number below its count
abbrev pub AllThere : List ℕ → Instance → Type 0
AllThere s i = (m : ℕ) → m < i.count → (v : Value) × (value_from s m (values_of i) ≡ just v)

-- so it is with an instance that a turn of the walk comes to, where its values are read
abbrev pub BelowCount : Type 0
BelowCount =
    (s : List ℕ) (end : ℕ) (f : Flags) (at next last : ℕ) (i : Instance) → sight_at s end f at ≡ given (begun i) next
    → values_at s i.table next i.count ≡ given tt last → AllThere s i

-- a token of an instance's text: where it is a substitution, it stands for a value that is there
abbrev pub Stands : List ℕ → Instance → Token → Type 0
Stands s i t = t.kind ≡ substitution_kind → (v : Value) × (stood_for s (R.Instance i) t.number ≡ just v)

module _ (s : List ℕ) (inline : Bool) where
  -- a body whose root is an instance: all values of that instance are there
  abbrev pub HasValues : Span → Type 0
  HasValues x = (i : Instance) → root_at s inline x.end x.start ≡ R.Instance i → AllThere s i

  -- its text is there, and each token of it stands so
  abbrev pub EachStands : Span → Type 0
  EachStands x = (i : Instance) → root_at s inline x.end x.start ≡ R.Instance i → (l : List Token) × (Source s inline x (R.Instance i) l × Each (Stands s i) l)

  -- a row that is made of a value: the substitution stands for it, and the words of the row's content are this value's
  pub record SaysValue (bodies : List Span) (row : List ℕ) (r : RowOf s inline bodies row) : Type 0 where
    pub value : Value
    pub there : stood_for s r.root r.token.number ≡ just value
    pub says : row
        ≡ row_with r.body r.item (hung_at (text r.tokens r.owners r.root) r.item) r.token (content_told s value.code value.content)

  -- a row that is its instance's own (`own_only`), and is made of a value where it is a substitution's in an instance's text
  pub record ValueRow (bodies : List Span) (row : List ℕ) : Type 0 where
    pub of_own : OwnRow s inline bodies row
    pub of_value : (i : Instance) → of_own.of.root ≡ R.Instance i → of_own.of.token.kind ≡ substitution_kind → SaysValue bodies row of_own.of

-- Of a call that answers a count: so many rows lie in the lent words, each as above; and of every body the values are there, and each
-- substitution stands for one
pub record NoneMissing (s : List ℕ) (start len : ℕ) (inline : Bool) (lent left : List ℕ) (count : ℕ) : Type 0 where
  pub words : List ℕ
  pub lie : left ≡ laid words lent
  pub counted : length words ≡ count * words_per_row
  pub rows : EachRow (ValueRow s inline (bodies_at s inline deepest_body start (start + len))) words
  pub values : Each (HasValues s inline) (bodies_at s inline deepest_body start (start + len))
  pub substitutions : Each (EachStands s inline) (bodies_at s inline deepest_body start (start + len))

-- "the substitution with number m stands for the instance's value m": in an accepted event that value is always there
abbrev pub ValueThere : Type 0
ValueThere =
    (s : List ℕ) (start len : ℕ) (inline : Bool) (lent left : List ℕ) (count : ℕ) → Events s start len inline lent left (gives count)
    → NoneMissing s start len inline lent left count
