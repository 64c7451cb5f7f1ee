-- When bodies inside values are accepted. Document 02, P9: "A new call walks such a value as a window of the same stream".
use Rattle.std.specs.Prelude.{◌≡◌, List, [], ◌∷◌, ◌++◌, map, Bool, false, ℕ, suc, ◌+◌, ◌≤◌, ◌<◌, eqb, length}
use Rattle.cursor.specs.Answer.{given, Result, gives, pick}
use Rattle.cursor.specs.Lent.{laid}
use Rattle.cursor.specs.Reads.{number_of}
use Rattle.value.specs.declared.Value.{Value}
use Rattle.tokens.specs.Instance.{value_in}
use Rattle.tokens.specs.Sight.{begun, met, sight_at}
use Rattle.tokens.specs.Token.{instance_kind, gist}
use Rattle.tokens.specs.Walk.{handed, header, over, token_of, Walked, walk_at, walk_of}
use Rattle.tokens.specs.declared.Flags.{Flags}
use Rattle.tokens.specs.declared.Held.TheVariants as H
use Rattle.tokens.specs.declared.Instance.{Instance}
use Rattle.tokens.specs.declared.Token.{Token}
use Rattle.sheet.specs.Sheet.{words_of, marks_of}
use Rattle.body.specs.Grammar.{narrow, Reading}
use Rattle.body.specs.Verdict as verdict
use Rattle.body.specs.Verdict.{deepest, Both, both, Judged}
use Rattle.nest.specs.Nested.{deepest_body, bin_xml, Entry, Own, own, tokens_of, numbers_from, renumbered, entries_of, inner_flags, nested_of, sheet_of, owners_of, Nested}
use Rattle.promises.specs.Nests.{Says}

module _ (s : List ℕ) where
  mutual
    -- A window at a level, n tokens having been begun before it, with the list of its tokens and of those in its values, numbered through:
    -- "no ninth level is met", its walk is read, "each inner walk ends within its value", and its own tokens are "a body by demand 3"
    pub data Window : ℕ → Flags → ℕ → ℕ → ℕ → List Entry → Type 0 where
      window : {level : ℕ} {f : Flags} {n start end last : ℕ} {l : List Own} {words : List ℕ} {entries : List Entry} → level ≤ deepest_body
          → Walk level end f n start l last → (0 < level → last ≤ end) → Reading narrow deepest (marks_of (tokens_of l)) words
          → entries ≡ entries_of level (map (renumbered (numbers_from n l)) words) l → Window level f n start end entries

    -- its walk from a position on: its own tokens, each with what its values hold, up to the last position
    pub data Walk : ℕ → ℕ → Flags → ℕ → ℕ → List Own → ℕ → Type 0 where
      a_token : {level end : ℕ} {f : Flags} {n at next last : ℕ} {t : Token} {o : Own} {r : List Own} → sight_at s end f at ≡ given (met (handed t)) next
          → o ≡ own t [] → Walk level end f (suc n) next r last → Walk level end f n at (o ∷ r) last
      an_instance : {level end : ℕ} {f : Flags} {n at next m last : ℕ} {i : Instance} {l : List Entry} {o : Own} {r : List Own}
          → sight_at s end f at ≡ given (begun i) next → Values level f.inline (suc n) i.table next i.count l m
          → o ≡ own (token_of at (gist instance_kind 0 false (H.Instance i)) m) l → Walk level end f (suc n + length l) m r last
          → Walk level end f n at (o ∷ r) last
      a_header : {level end : ℕ} {f : Flags} {n at next last : ℕ} {r : List Own} → sight_at s end f at ≡ given (met header) next
          → Walk level end f n next r last → Walk level end f n at r last
      its_end : {level end : ℕ} {f : Flags} {n at last : ℕ} → sight_at s end f at ≡ given (met over) last → Walk level end f n at [] last

    -- so many values of an instance at a level, each by its descriptor: one of type 21 is a window of the next level, "without dependencies
    -- and with the outer stream's kind of names"
    pub data Values : ℕ → Bool → ℕ → ℕ → ℕ → ℕ → List Entry → ℕ → Type 0 where
      no_more : {level : ℕ} {inline : Bool} {n table at : ℕ} → Values level inline n table at 0 [] at
      another : {level : ℕ} {inline : Bool} {n table at next count last : ℕ} {v : Value} {l : List Entry} → value_in s table at ≡ given v next
          → (v.code ≡ bin_xml → ⊥) → Values level inline n (table + 4) next count l last → Values level inline n table at (suc count) l last
      a_body : {level : ℕ} {inline : Bool} {n table at next count last : ℕ} {v : Value} {l m both : List Entry} → value_in s table at ≡ given v next
          → v.code ≡ bin_xml → Window (suc level) (inner_flags inline) n v.start (v.start + number_of s table 2) l
          → Values level inline (n + length l) (table + 4) next count m last → both ≡ l ++ m → Values level inline n table at (suc count) both last

-- "the call accepts exactly when the outer walk and every window reached from it are read, each inner walk ends within its value, no ninth
-- level is met, and each of these token lists is a body by demand 3"; 1 and 2 come before all
abbrev pub Accepted : List ℕ → ℕ → ℕ → Flags → List Entry → Type 0
Accepted s start len f l = (length s ≤ 65536) × (start ≤ length s) × Window s 0 f 0 start (start + len) l

abbrev pub ExactlyWhen : Type 0
ExactlyWhen =
    (judge : List ℕ → Result (List ℕ)) → Says judge → (s : List ℕ) (start len : ℕ) (f : Flags) (l : List Entry)
    → (nested_of judge s start len f ≡ gives l → Accepted s start len f l) × (Accepted s start len f l → nested_of judge s start len f ≡ gives l)

-- the tokens of a level in a list numbered through, in order; and their numbers, that of the list's first token being n, and last how many
-- there are then
abbrev pub at_level : ℕ → List Entry → List Entry
at_level level [] = []
at_level level (e ∷ l) = pick (eqb e.level level) (e ∷ at_level level l) (at_level level l)

abbrev pub numbers_at : ℕ → ℕ → List Entry → List ℕ
numbers_at level n [] = n ∷ []
numbers_at level n (e ∷ l) = pick (eqb e.level level) (n ∷ numbers_at level (suc n) l) (numbers_at level (suc n) l)

-- Of the tokens of a level in a list numbered through, n being its first token's number, and of a walk: P8's call on that walk has the sheet
-- of these tokens, "level bits off", and its owners, "renumbered" by the tokens' numbers in the list, are these tokens' words.
pub record OnItsOwn (w : Walked) (level n : ℕ) (entries : List Entry) : Type 0 where
  pub words : List ℕ
  pub judged : Judged w (gives words)
  pub sheet : verdict.sheet_of w ≡ words_of (map (λ e. e.token) (at_level level entries))
  pub owners : map (λ e. e.word) (at_level level entries) ≡ map (renumbered (numbers_at level n entries)) words

-- "Level 0's words in order are those of P8's call on the stream"
abbrev pub OuterOnItsOwn : Type 0
OuterOnItsOwn =
    (s : List ℕ) (start len : ℕ) (f : Flags) (l : List Entry) → Accepted s start len f l → OnItsOwn (walk_of s start len f) 0 0 l

-- "and a window's, level bits off, those of P8's call on" the value, "no dependencies, names as outside", "with its owners renumbered". A
-- value's window has its list whole in that of its instance's values (`a_body`), and these follow the instance (`entries_of`): "The list is the
-- tree in preorder."
abbrev pub EachOnItsOwn : Type 0
EachOnItsOwn =
    (s : List ℕ) (level : ℕ) (f : Flags) (n start end : ℕ) (l : List Entry) → Window s level f n start end l → OnItsOwn (walk_at s end f start) level n l

-- both lent buffers have room for the list
abbrev pub Room : List Entry → Both → Type 0
Room l lent = (length (sheet_of l) ≤ length lent.sheet) × (length (owners_of l) ≤ length lent.table)

-- "With room, the call accepts exactly when" there is such a list: it answers how many tokens there are and lays their words, and where it
-- answers a count there is one
pub record Decided (s : List ℕ) (start len : ℕ) (f : Flags) (lent left : Both) (o : Result ℕ) : Type 0 where
  pub accepts : (l : List Entry) → Accepted s start len f l → Room l lent
      → (o ≡ gives (length l)) × (left ≡ both (laid (sheet_of l) lent.sheet) (laid (owners_of l) lent.table))
  pub only_accepted : (m : ℕ) → o ≡ gives m → (l : List Entry) × (Accepted s start len f l × (m ≡ length l))

abbrev pub CallAccepts : Type 0
CallAccepts =
    (s : List ℕ) (start len : ℕ) (f : Flags) (lent left : Both) (o : Result ℕ) → Nested s start len f lent left o → Decided s start len f lent left o
