-- What private functions answer: only these cite the definitions here.
use Rattle.std.specs.Prelude.{◌≡◌, Bool, true, false, ◌&&◌, List, [], ◌∷◌, ◌++◌, map, ◌⊎◌, ℕ, zero, suc, ◌+◌, ◌-◌, ◌*◌, ◌≤◌, ◌<◌, eqb, ltb, length, get_or, take, set}
use Rattle.std.proofs.lemmas.List.Edits.{sets}
use Rattle.cursor.specs.Answer.{Answer, given, refused, Result, gives, refuses, pick, Maybe, just, nothing}
use Rattle.cursor.specs.declared.Refusal.{Refusal}
use Rattle.tokens.specs.Instance.{ValueNext, values_of, next_of}
use Rattle.tokens.specs.Sight.{Seen, begun, met, sight_at}
use Rattle.tokens.specs.Token.{instance_kind, gist}
use Rattle.tokens.specs.Walk.{handed, header, over, token_of}
use Rattle.tokens.specs.declared.Flags.{Flags}
use Rattle.tokens.specs.declared.Held.TheVariants as H
use Rattle.tokens.specs.declared.Instance.{Instance}
use Rattle.tokens.specs.declared.Token.{Token}
use Rattle.tokens.specs.declared.Values.{Values}
use Rattle.body.specs.Reader.{verdict_on}
use Rattle.body.specs.Verdict.{Both, both_answer, both_left}
use Rattle.nest.specs.Nested.{ninth_level, past_value, deepest_body, bin_xml, Entry, Own, words_at, sheet_of, owners_of, renumbered, window_at, body_at, both_words, entry_count}
use Rattle.nest.specs.declared.inner.Event.{Event}
use Rattle.nest.specs.declared.inner.Event.TheVariants as E
use Rattle.nest.specs.declared.inner.Place.{Place}
use Rattle.nest.specs.declared.inner.Place.TheVariants as P

-- the stacks are full: no refusal of document 01 has this number
abbrev pub full : ℕ
full = 0

abbrev pub refusal_of : ℕ → ℕ → Refusal
refusal_of k p = record { number = k; place = p }

-- where a walk stands: its position, or where the instance is whose values it reads
abbrev pub last_of : Place → ℕ
last_of (P.Between at) = at
last_of (P.Inside place v) = place

-- an instance's token, from its place to a position
abbrev pub instance_token : ℕ → ℕ → Token
instance_token place next = token_of place (gist instance_kind 0 false H.Nothing) next

-- a token needs a place on the stacks
abbrev pub full_event : Event
full_event = E.Refused (refusal_of full 0)

abbrev pub token_event : Bool → Token → Place → Event
token_event room t to = pick room (E.Token to t) full_event

-- an instance's head
abbrev pub began_event : Bool → ℕ → Instance → ℕ → Event
began_event room at i next = token_event room (instance_token at next) (P.Inside at (values_of i))

abbrev pub seen_event : Bool → ℕ → Answer Seen → Event
seen_event room at (given (begun i) next) = began_event room at i next
seen_event room at (given (met (handed t)) next) = token_event room t (P.Between next)
seen_event room at (given (met header) next) = E.Moved (P.Between next)
seen_event room at (given (met over) next) = E.Over (P.Between next)
seen_event room at (refused k p) = E.Refused (refusal_of k p)

-- a value that was read
abbrev pub held_event : ℕ → ℕ → ℕ → ℕ → Place → Event
held_event left code start size to =
    pick (eqb code bin_xml) (pick (eqb left 0) (E.Refused (refusal_of ninth_level start)) (E.Body to start size)) (E.Moved to)

abbrev pub value_event : ℕ → ℕ → Values → Result (Maybe ValueNext) → Event
value_event left place v (gives (just x)) = held_event left x.value.code x.value.start x.size (P.Inside place x.rest)
value_event left place v (gives nothing) = E.Ended (P.Between v.at) (instance_token place v.at)
value_event left place v (refuses k p) = E.Refused (refusal_of k p)

-- what a walk meets next
abbrev pub event_at : List ℕ → ℕ → Flags → ℕ → Bool → Place → Event
event_at s end f left room (P.Between at) = seen_event room at (sight_at s end f at)
event_at s end f left room (P.Inside place v) = value_event left place v (next_of s v)

-- the numbers of a walk's own tokens, and how many tokens there are with those of the bodies in them
abbrev pub numbers_of : ℕ → List Own → List ℕ
numbers_of n [] = []
numbers_of n (o ∷ l) = n ∷ numbers_of (suc n + length o.within) l

abbrev pub count_in : List Own → ℕ
count_in [] = 0
count_in (o ∷ l) = suc (length o.within) + count_in l

-- their words in the sheet
abbrev pub sheet_own : ℕ → List Own → List ℕ
sheet_own level [] = []
sheet_own level (o ∷ l) = words_at level o.token ++ (sheet_of o.within ++ sheet_own level l)

-- a table in which the words of inner tokens are set, from number n on, and those of the walk's own tokens are not
abbrev pub table_own : ℕ → List Own → List ℕ → List ℕ
table_own n [] table = table
table_own n (o ∷ l) table = table_own (suc n + length o.within) l (sets table (suc n) (owners_of o.within))

-- words set each at its number
abbrev pub set_at : List ℕ → List ℕ → List ℕ → List ℕ
set_at [] words table = table
set_at (n ∷ numbers) [] table = table
set_at (n ∷ numbers) (w ∷ words) table = set_at numbers words (set table n w)

-- a verdict on k own tokens with their numbers, n having been numbered: the answer, and of a body the table
abbrev pub numbers_to : ℕ → ℕ → List ℕ → List ℕ
numbers_to k n numbers = take k numbers ++ (n ∷ [])

abbrev pub verdict_answer : ℕ → List ℕ → Result (List ℕ) → Result ℕ
verdict_answer n numbers (gives words) = gives n
verdict_answer n numbers (refuses k p) = refuses k (get_or numbers p 0)

abbrev pub VerdictLaid : List ℕ → List ℕ → Result (List ℕ) → List ℕ → List ℕ → Type 0
VerdictLaid own numbers (gives words) table₀ table = table ≡ set_at own (map (renumbered numbers) words) table₀
VerdictLaid own numbers (refuses k p) table₀ table = Unit {0}

-- the numbers of a walk's own tokens are below the next one, which a stream has; where no others are numbered, each is its place
abbrev pub Numbered : List ℕ → ℕ → ℕ → Type 0
Numbered numbers k n = (n ≤ 65536) × ((i : ℕ) → i < k → get_or numbers i 0 < n) × (n ≡ k → (i : ℕ) → i < k → get_or numbers i 0 ≡ i)

-- What a window's walk leaves where it is read: the words of its tokens from number n on.
pub record Laid (x : Result (List Entry)) (n m : ℕ) (sheet₀ sheet table₀ table : List ℕ) : Type 0 where
  pub entries : List Entry
  pub holds : x ≡ gives entries
  pub count : m ≡ n + length entries
  pub words : sheet ≡ sets sheet₀ (n * 2) (sheet_of entries)
  pub owners : table ≡ sets table₀ n (owners_of entries)

-- What a window's walk answers: its tokens, of which a value's are no more than its bytes; a refusal; or that the stacks are too short, which
-- they are not for every stream
abbrev pub WalkRead : List ℕ → ℕ → Result (List Entry) → ℕ → Bool → ℕ → List ℕ → List ℕ → List ℕ → List ℕ → Result ℕ → Type 0
WalkRead s room x n inside end sheet₀ sheet table₀ table (gives m) =
    Laid x n m sheet₀ sheet table₀ table × (inside ≡ true → m ≤ end) × (m ≤ length s)
WalkRead s room x n inside end sheet₀ sheet table₀ table (refuses k p) = ((k ≡ full) × (n + room < length s)) ⊎ (x ≡ refuses k p)

-- a window by the reader's verdict, with so many levels left
abbrev pub window_by : List ℕ → ℕ → Bool → Flags → ℕ → ℕ → ℕ → Result (List Entry)
window_by s left inside f n start end = window_at verdict_on s (body_at verdict_on s f.inline left) (deepest_body - left) inside f n start end

abbrev pub FullAnswer : Result ℕ → Type 0
FullAnswer (gives n) = ⊥
FullAnswer (refuses k p) = k ≡ full

-- The whole by the reader's verdict; or that the stacks are too short, and nothing is written
abbrev pub Tried : List ℕ → ℕ → Result (List Entry) → Both → Both → Result ℕ → Type 0
Tried s room x lent left o =
    (FullAnswer o × (room < length s) × (left ≡ lent)) ⊎ ((o ≡ both_answer (both_words x) lent) × (left ≡ both_left (both_words x) lent))

-- n tokens were read, and where there is room for their words these stand at the front of the words and the owners noted
pub record Noted (x : Result (List Entry)) (n : ℕ) (own owners : List ℕ) : Type 0 where
  pub entries : List Entry
  pub holds : x ≡ gives entries
  pub count : n ≡ length entries
  pub few : n ≤ 65536
  pub words : n * 2 ≤ length own → take (n * 2) own ≡ sheet_of entries
  pub owned : n ≤ length owners → take n owners ≡ owners_of entries

-- how many tokens there are by the reader's verdict; or that the stacks are too short
abbrev pub CountTried : List ℕ → ℕ → Result (List Entry) → Result ℕ → Type 0
CountTried s room x o = (FullAnswer o × (room < length s)) ⊎ (o ≡ entry_count x)
