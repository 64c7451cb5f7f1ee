-- The grammar of an event body, and its owner table. Document 01, "Grammar"; document 02, P4: what may stand around the root, and P5: what
-- an open token asks of its attributes.
--
-- Tokens go by their numbers, from 0 on: the span from i to j is the tokens i, i + 1, .. up to but not j. `suc i` is i + 1. A token's word in
-- the table is its owner's number plus 1, or 0 for none; so the word `suc i` says that token i owns it. Of a token the grammar sees its mark
-- (sheet/specs, `marks_of`).
use Rattle.std.specs.Prelude.{◌≡◌, Bool, List, ℕ, suc, ◌≤◌, eqb, ltb, length, get_or}
use Rattle.cursor.specs.Answer.{pick}
use Rattle.tokens.specs.Token.{instance_kind, open_kind, close_start_kind, close_empty_kind, close_element_kind, value_kind, attribute_kind, entity_ref_kind, pi_target_kind, pi_data_kind, cdata_kind, char_ref_kind, substitution_kind}

-- an open token that announces attributes, by its mark: the kind, and 16 more
abbrev pub announcing_open : ℕ
announcing_open = 18

abbrev pub announces : ℕ → Bool
announces mark = eqb mark announcing_open

-- the kind that a mark is of: every other mark is the kind itself, since only an open token announces attributes
unfoldable pub kind_of : ℕ → ℕ
kind_of mark = pick (announces mark) open_kind mark

-- What a grammar asks of an open token, by its mark and by whether attributes follow it.
abbrev pub Rule : Type 1
Rule = ℕ → Bool → Type 0

-- "any attributes": nothing is asked
abbrev pub wide : Rule
wide mark any = Unit {0}

-- "Announced and present must agree": attributes follow exactly where they were announced
abbrev pub narrow : Rule
narrow mark any = announces mark ≡ any

-- "values, substitutions, char refs, entity refs": the kinds of "those four"
pub data OneOfFour : ℕ → Type 0 where
  a_value : OneOfFour value_kind
  a_substitution : OneOfFour substitution_kind
  a_char_ref : OneOfFour char_ref_kind
  an_entity_ref : OneOfFour entity_ref_kind

module _ (marks words : List ℕ) where
  -- token i is of the kind k, and its word is w
  pub record Stands (i k w : ℕ) : Type 0 where
    pub kind : kind_of (get_or marks i 0) ≡ k
    pub word : get_or words i 0 ≡ w

  -- "any run of values, substitutions, char refs, entity refs": from i to j, each with the word w
  pub data Items (w : ℕ) : ℕ → ℕ → Type 0 where
    no_more : {i : ℕ} → Items w i i
    item : {i j k : ℕ} → OneOfFour k → Stands i k w → Items w (suc i) j → Items w i j

  -- "An attribute is its token and any run of" items. "An attribute's items belong to its token": from i to j any attributes, whose own tokens
  -- have the word w
  pub data Attributes (w : ℕ) : ℕ → ℕ → Type 0 where
    no_more : {i : ℕ} → Attributes w i i
    attribute : {i m j : ℕ} → Stands i attribute_kind w → Items (suc i) (suc i) m → Attributes w m j → Attributes w i j

  -- "an open token, any attributes": from i to j, and the open token has the word w. There are attributes where j is past `suc i`; what the
  -- grammar asks of that is its rule
  pub record Tag (rule : Rule) (w i j : ℕ) : Type 0 where
    pub opening : Stands i open_kind w
    pub attributes : Attributes (suc i) (suc i) j
    pub ruled : rule (get_or marks i 0) (ltb (suc i) j)

  -- "at most one target and data pair", around the root: from i to j. A pair is "PI target directly followed by PI data". "those outer tokens
  -- have no owner"
  pub data AtMostOnePair : ℕ → ℕ → Type 0 where
    no_pair : {i : ℕ} → AtMostOnePair i i
    a_pair : {i : ℕ} → Stands i pi_target_kind 0 → Stands (suc i) pi_data_kind 0 → AtMostOnePair i (suc (suc i))

  -- "Elements and their content are defined through each other". No element's level is past the limit.
  module _ (rule : Rule) (limit : ℕ) where
    mutual
      -- "An element is an open token, any attributes, then either close empty, or close start, content, close element": from i to j, at a
      -- level, and its open token has the word w. "its close tokens and child opens too, belongs to its open token"
      pub data Element : ℕ → ℕ → ℕ → ℕ → Type 0 where
        empty : {level w i a : ℕ} → level ≤ limit → Tag rule w i a → Stands a close_empty_kind (suc i) → Element level w i (suc a)
        full : {level w i a c : ℕ} → level ≤ limit → Tag rule w i a → Stands a close_start_kind (suc i) → Content level (suc i) (suc a) c
            → Stands c close_element_kind (suc i) → Element level w i (suc c)

      -- "Content is any run of those four, CDATA, elements, and PI target directly followed by PI data": from i to j, in an element at a
      -- level. "all else directly in an element", "child opens too, belongs to its open token": all of it has the word w
      pub data Content : ℕ → ℕ → ℕ → ℕ → Type 0 where
        no_more : {level w i : ℕ} → Content level w i i
        item : {level w i j k : ℕ} → OneOfFour k → Stands i k w → Content level w (suc i) j → Content level w i j
        cdata : {level w i j : ℕ} → Stands i cdata_kind w → Content level w (suc i) j → Content level w i j
        instruction : {level w i j : ℕ} → Stands i pi_target_kind w → Stands (suc i) pi_data_kind w → Content level w (suc (suc i)) j → Content level w i j
        child : {level w i m j : ℕ} → Element (suc level) w i m → Content level w m j → Content level w i j

    -- "one instance or element": from i to j. "the root is level 1"; "root and instance have no owner"
    pub data Root : ℕ → ℕ → Type 0 where
      an_instance : {i : ℕ} → Stands i instance_kind 0 → Root i (suc i)
      an_element : {i j : ℕ} → Element 1 0 i j → Root i j

    -- "A body is from now on at most one target and data pair, then one instance or element, then at most one pair": from i to j
    pub data Body : ℕ → ℕ → Type 0 where
      parts : {i a b j : ℕ} → AtMostOnePair i a → Root a b → AtMostOnePair b j → Body i j

-- A reading: the tokens are a body nested at most `limit` elements deep, and the words are its owner table.
pub record Reading (rule : Rule) (limit : ℕ) (marks words : List ℕ) : Type 0 where
  pub each : length words ≡ length marks
  pub body : Body marks words rule limit 0 (length marks)
