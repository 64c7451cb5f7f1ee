-- Bodies inside values. Document 02, P9: "A new call walks such a value as a window of the same stream".
--
-- The grammar is not here: what it says of a body is a parameter, `judge`, from the marks of tokens to the words of their owner table or a
-- refusal. The call's contract speaks of every judge that says what demand 3 says.
use Rattle.std.specs.Prelude.{◌≡◌, Bool, true, false, ◌&&◌, List, [], ◌∷◌, ◌++◌, map, ℕ, zero, suc, ◌+◌, ◌-◌, ◌*◌, ◌^◌, eqb, ltb, length, get_or}
use Rattle.cursor.specs.Answer.{Answer, given, refused, Result, gives, refuses, ◌then◌, pick}
use Rattle.cursor.specs.Reads.{number_of}
use Rattle.tokens.specs.Instance.{value_in}
use Rattle.tokens.specs.Sight.{Seen, begun, met, sight_at}
use Rattle.tokens.specs.Token.{instance_kind, gist}
use Rattle.tokens.specs.Walk.{Met, handed, header, over, token_of, window_of}
use Rattle.tokens.specs.declared.Flags.{Flags}
use Rattle.tokens.specs.declared.Held.TheVariants as H
use Rattle.tokens.specs.declared.Token.{Token}
use Rattle.sheet.specs.Sheet.{marks_of, first_word_of, second_word_of}
use Rattle.body.specs.Verdict.{Verdict, Both, both, both_answer, both_left}

-- "21, a ninth level", at the value's start
abbrev pub ninth_level : ℕ
ninth_level = 21

-- "29, an inner walk ending past its value", at the value's start
abbrev pub past_value : ℕ
past_value = 29

-- "A body within a body may go eight levels down."
abbrev pub deepest_body : ℕ
deepest_body = 8

-- "a value of type 21"
abbrev pub bin_xml : ℕ
bin_xml = 0x21

-- A token as sheet and table hold it: with its level, "level 0 to 8", and its word in the owner table.
pub record Entry : Type 0 where
  pub token : Token
  pub level : ℕ
  pub word : ℕ

-- A token of one walk, and what the bodies in its values hold: nothing, unless it is an instance.
pub record Own : Type 0 where
  pub token : Token
  pub within : List Entry

abbrev pub own : Token → List Entry → Own
own t l = record { token = t; within = l }

-- What the body in a value holds, or the refusal: by how many tokens were begun before it, where the value starts, and its size.
abbrev pub Inner : Type 0
Inner = ℕ → ℕ → ℕ → Result (List Entry)

-- a value of type 21 holds a body; another value none
abbrev pub held_in : Inner → Bool → ℕ → ℕ → ℕ → Result (List Entry)
held_in inner true n start size = inner n start size
held_in inner false n start size = gives []

-- what a body holds, where the outer walk reads on: "inner refusals keep their number and stop the outer call"
abbrev pub reading_on : {A : Type 0} → Result A → ℕ → Answer A
reading_on (gives a) next = given a next
reading_on (refuses k p) next = refused k p

module _ (s : List ℕ) (inner : Inner) where
  -- so many values, one after another, each by its descriptor: its own read, then the body in it, and only then the next value
  unfoldable pub values_from : ℕ → ℕ → ℕ → ℕ → Answer (List Entry)
  values_from n table at zero = given [] at
  values_from n table at (suc count) =
      value_in s table at then λ v next.
      reading_on (held_in inner (eqb v.code bin_xml) n v.start (number_of s table 2)) next then λ l next.
      values_from (n + length l) (table + 4) next count then λ m last.
      given (l ++ m) last

  -- what a turn sees, with the bodies in an instance's values: the instance takes its number before them
  abbrev pub held_by : ℕ → ℕ → Seen → ℕ → Answer (Met × List Entry)
  held_by n place (met m) next = given (m, []) next
  held_by n place (begun i) next =
      values_from (suc n) i.table next i.count then λ l last.
      given (handed (token_of place (gist instance_kind 0 false (H.Instance i)) last), l) last

  abbrev pub meet_at : ℕ → Flags → ℕ → ℕ → Answer (Met × List Entry)
  meet_at end f n at = sight_at s end f at then held_by n at

  -- the rest of a walk after a turn, n tokens having been begun before it
  abbrev pub onward : ℕ → Answer (Met × List Entry) → (ℕ → ℕ → Answer (List Own)) → Answer (List Own)
  onward n (given (handed t, l) next) go = go (suc n + length l) next then λ r last. given (own t l ∷ r) last
  onward n (given (header, l) next) go = go n next
  onward n (given (over, l) next) go = given [] next
  onward n (refused k p) go = refused k p

  unfoldable pub nest_from : ℕ → ℕ → Flags → ℕ → ℕ → Answer (List Own)
  nest_from zero end f n at = given [] at
  nest_from (suc turns) end f n at = onward n (meet_at end f n at) (nest_from turns end f)

  -- a walk's own tokens, and its last position: each turn has a byte, so that there are fewer turns than bytes left and one
  abbrev pub nest_at : ℕ → Flags → ℕ → ℕ → Answer (List Own)
  nest_at end f n at = nest_from (suc (length s - at)) end f n at

-- "numbered through": the number of each token of a walk, n having been begun before it, and last how many there are then
abbrev pub numbers_from : ℕ → List Own → List ℕ
numbers_from n [] = n ∷ []
numbers_from n (o ∷ l) = n ∷ numbers_from (suc n + length o.within) l

-- a body's own word, by the numbers of its tokens: 0 stays, and an owner's number is the one numbered through
abbrev pub renumbered : List ℕ → ℕ → ℕ
renumbered numbers zero = 0
renumbered numbers (suc i) = suc (get_or numbers i 0)

-- the tokens of a body in order, each with its word, "inner tokens right after their instance"
abbrev pub entries_of : ℕ → List ℕ → List Own → List Entry
entries_of level words [] = []
entries_of level [] (o ∷ l) = []
entries_of level (w ∷ words) (o ∷ l) = record { token = o.token; level = level; word = w } ∷ (o.within ++ entries_of level words l)

abbrev pub tokens_of : List Own → List Token
tokens_of l = map (λ o. o.token) l

-- a verdict on a body's own tokens, numbered through: "token numbers and counts in their places being those numbered through"
abbrev pub by_numbers : ℕ → List ℕ → List Own → Result (List ℕ) → Result (List Entry)
by_numbers level numbers l (gives words) = gives (entries_of level (map (renumbered numbers) words) l)
by_numbers level numbers l (refuses k p) = refuses k (get_or numbers p 0)

-- "without dependencies and with the outer stream's kind of names"
abbrev pub inner_flags : Bool → Flags
inner_flags inline = record { dependencies = false; inline = inline }

module _ (judge : List ℕ → Result (List ℕ)) where
  -- "each inner body obeys demand 3 on its own"; "so does the outer body"
  abbrev pub judged_from : ℕ → ℕ → List Own → Result (List Entry)
  judged_from level n l = by_numbers level (numbers_from n l) l (judge (marks_of (tokens_of l)))

  -- after a window's walk: for a value's, "29, an inner walk ending past its value (before its grammar)"; then its grammar
  abbrev pub closed_at : ℕ → Bool → ℕ → ℕ → ℕ → Answer (List Own) → Result (List Entry)
  closed_at level inside n start end (given l last) = pick (inside && ltb end last) (refuses past_value start) (judged_from level n l)
  closed_at level inside n start end (refused k p) = refuses k p

  module _ (s : List ℕ) where
    -- a window at a level, in a value or not, n tokens having been begun before it
    abbrev pub window_at : Inner → ℕ → Bool → Flags → ℕ → ℕ → ℕ → Result (List Entry)
    window_at inner level inside f n start end = closed_at level inside n start end (nest_at s inner end f n start)

    -- the body in a value, with so many levels left below its instance
    unfoldable pub body_at : Bool → ℕ → ℕ → ℕ → ℕ → Result (List Entry)
    body_at inline zero n start size = refuses ninth_level start
    body_at inline (suc left) n start size =
        window_at (body_at inline left) (deepest_body - left) true (inner_flags inline) n start (start + size)

    -- the whole: the outer walk is at level 0, and "judged last"
    abbrev pub in_window : Flags → Result (ℕ × ℕ) → Result (List Entry)
    in_window f (gives (start, end)) = window_at (body_at f.inline deepest_body) 0 false f 0 start end
    in_window f (refuses k p) = refuses k p

    abbrev pub nested_of : ℕ → ℕ → Flags → Result (List Entry)
    nested_of start len f = in_window f (window_of s start len)

-- a token's words: the first "as before", with the "level 0 to 8 in the next four spare places"
abbrev pub words_at : ℕ → Token → List ℕ
words_at level t = (first_word_of t + level * 2 ^ 4) ∷ second_word_of t ∷ []

abbrev pub sheet_of : List Entry → List ℕ
sheet_of [] = []
sheet_of (e ∷ l) = words_at e.level e.token ++ sheet_of l

abbrev pub owners_of : List Entry → List ℕ
owners_of l = map (λ e. e.word) l

abbrev pub both_words : Result (List Entry) → Result Both
both_words (gives l) = gives (both (sheet_of l) (owners_of l))
both_words (refuses k p) = refuses k p

-- What the call answers, and what it leaves in both buffers: by every judge that says of each list of marks what demand 3 says.
abbrev pub Nested : List ℕ → ℕ → ℕ → Flags → Both → Both → Result ℕ → Type 0
Nested s start len f lent left o =
    (judge : List ℕ → Result (List ℕ)) → ((marks : List ℕ) → Verdict marks (judge marks))
    → (o ≡ both_answer (both_words (nested_of judge s start len f)) lent) × (left ≡ both_left (both_words (nested_of judge s start len f)) lent)

-- how many tokens there are, or the refusal: nothing is lent
abbrev pub entry_count : Result (List Entry) → Result ℕ
entry_count (gives l) = gives (length l)
entry_count (refuses k p) = refuses k p

-- What the call that counts answers: by every such judge.
abbrev pub Counts : List ℕ → ℕ → ℕ → Flags → Result ℕ → Type 0
Counts s start len f o =
    (judge : List ℕ → Result (List ℕ)) → ((marks : List ℕ) → Verdict marks (judge marks)) → o ≡ entry_count (nested_of judge s start len f)
