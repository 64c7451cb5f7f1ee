-- How far a walk has got, and what a run of tokens or of values leaves of that: only private functions cite the definitions here.
use Rattle.std.specs.Prelude.{◌≡◌, false, List, [], ◌∷◌, ◌++◌, ℕ, ◌+◌, ◌-◌, ◌*◌, ◌≤◌, ◌<◌, ltb, length, take}
use Rattle.std.proofs.lemmas.List.Edits.{sets}
use Rattle.cursor.specs.Answer.{Answer, given, ◌then◌}
use Rattle.tokens.specs.Instance.{next_of}
use Rattle.tokens.specs.Sight.{sight_at}
use Rattle.tokens.specs.Token.{instance_kind, gist}
use Rattle.tokens.specs.Walk.{token_of}
use Rattle.tokens.specs.declared.Flags.{Flags}
use Rattle.tokens.specs.declared.Held.TheVariants as H
use Rattle.tokens.specs.declared.Instance.{Instance}
use Rattle.tokens.specs.declared.Token.{Token}
use Rattle.tokens.specs.declared.Values.{Values}
use Rattle.sheet.specs.Sheet.{marks_of}
use Rattle.nest.specs.Nested.{deepest_body, Entry, Own, own, Inner, values_from, nest_at, tokens_of}
use Rattle.nest.specs.Pieces.{seen_event, value_event, numbers_of, count_in, sheet_own, table_own}
use Rattle.nest.specs.declared.inner.Event.{Event}
use Rattle.nest.specs.declared.inner.Place.{Place}
use Rattle.nest.specs.declared.inner.Place.TheVariants as P
use Rattle.nest.specs.declared.inner.Stop.{Stop}

-- Noted of a walk's own tokens: their marks and numbers on the stacks, and their words in the buffers, with those of the bodies in them.
pub record Kept (level first : ℕ) (sheet₀ table₀ : List ℕ) (d : List Own) (n k : ℕ) (marks numbers sheet table : List ℕ) : Type 0 where
  pub depth : k ≡ length d
  pub many : n ≡ first + count_in d
  pub marked : take k marks ≡ marks_of (tokens_of d)
  pub numbered : take k numbers ≡ numbers_of first d
  pub words : sheet ≡ sets sheet₀ (first * 2) (sheet_own level d)
  pub owners : table ≡ table_own first d table₀

-- between tokens: the rest of the walk is what follows the tokens that are noted
pub record Going (level first : ℕ) (sheet₀ table₀ s : List ℕ) (inner : Inner) (end : ℕ) (f : Flags) (whole : Answer (List Own)) (at n k : ℕ) (marks numbers sheet table : List ℕ) : Type 0 where
  pub done : List Own
  pub kept : Kept level first sheet₀ table₀ done n k marks numbers sheet table
  pub rest : whole ≡ (nest_at s inner end f n at then λ r last. given (done ++ r) last)
  pub low : n ≤ at
  pub high : at ≤ length s

-- an instance's token, whose numbers are in it
abbrev pub instance_of : Instance → ℕ → ℕ → Token
instance_of i place next = token_of place (gist instance_kind 0 false (H.Instance i)) next

-- among an instance's values: the instance is the last token that is noted, and the rest of the walk follows the values that are left
pub record Among (level first : ℕ) (sheet₀ table₀ s : List ℕ) (inner : Inner) (end : ℕ) (f : Flags) (whole : Answer (List Own)) (place : ℕ) (v : Values) (n at k : ℕ) (marks numbers sheet table : List ℕ) : Type 0 where
  pub done : List Own
  pub instance : Instance
  pub so_far : ℕ
  pub held : List Entry
  pub kept : Kept level first sheet₀ table₀ (done ++ (own (instance_of instance place so_far) held ∷ [])) n k marks numbers sheet table
  pub number : at ≡ first + count_in done
  pub rest : whole ≡ (values_from s inner n v.table v.at v.left then λ l last. nest_at s inner end f (n + length l) last then λ r at. given ((done ++ (own (instance_of instance place last) (held ++ l) ∷ [])) ++ r) at)
  pub low : n ≤ v.at
  pub high : v.at ≤ length s
  pub stands : v.table + 4 * v.left ≤ length s
  pub after : place < v.at

-- whatever walk goes on there, goes on here
abbrev pub Carries : List ℕ → ℕ → Flags → ℕ → ℕ → ℕ → ℕ → List ℕ → List ℕ → List ℕ → ℕ → ℕ → ℕ → List ℕ → List ℕ → List ℕ → Type 0
Carries s end f level at n k marks numbers sheet at' n' k' marks' numbers' sheet' =
    (first : ℕ) (sheet₀ table₀ table : List ℕ) (inner : Inner) (whole : Answer (List Own))
    → Going level first sheet₀ table₀ s inner end f whole at n k marks numbers sheet table
    → Going level first sheet₀ table₀ s inner end f whole at' n' k' marks' numbers' sheet' table

-- where a run of tokens has stopped, and what is met there
pub record Stopped (s : List ℕ) (end : ℕ) (f : Flags) (left at n k : ℕ) (marks numbers sheet marks' numbers' sheet' : List ℕ) (r : Stop) : Type 0 where
  pub here : ℕ
  pub onward : at ≤ here
  pub met : r.event ≡ seen_event (ltb r.k (length marks')) here (sight_at s end f here)
  pub carries : Carries s end f (deepest_body - left) at n k marks numbers sheet here r.n r.k marks' numbers' sheet'
  pub counted : n ≤ r.n
  pub fits : r.k ≤ length marks'
  pub marks_same : length marks' ≡ length marks
  pub numbers_same : length numbers' ≡ length numbers
  pub sheet_same : length sheet' ≡ length sheet

-- a walk among these values goes on among those
abbrev pub Passes : List ℕ → ℕ → Values → Values → Type 0
Passes s place v v' =
    (level first : ℕ) (sheet₀ table₀ : List ℕ) (inner : Inner) (end : ℕ) (f : Flags) (whole : Answer (List Own)) (n last k : ℕ) (marks numbers sheet table : List ℕ)
    → Among level first sheet₀ table₀ s inner end f whole place v n last k marks numbers sheet table
    → Among level first sheet₀ table₀ s inner end f whole place v' n last k marks numbers sheet table

-- values that hold no body have been passed, and what is met then
pub record Passed (s : List ℕ) (left place : ℕ) (v : Values) (r : Event) : Type 0 where
  pub here : Values
  pub met : r ≡ value_event left place here (next_of s here)
  pub passes : Passes s place v here
  pub fewer : here.left ≤ v.left

-- among values nothing is noted
pub record Held (s : List ℕ) (left place : ℕ) (v : Values) (n k : ℕ) (marks numbers sheet marks' numbers' sheet' : List ℕ) (r : Stop) : Type 0 where
  pub passed : Passed s left place v r.event
  pub n_same : r.n ≡ n
  pub k_same : r.k ≡ k
  pub marks_same : marks' ≡ marks
  pub numbers_same : numbers' ≡ numbers
  pub sheet_same : sheet' ≡ sheet

abbrev pub MetAt : List ℕ → ℕ → Flags → ℕ → Place → ℕ → ℕ → List ℕ → List ℕ → List ℕ → List ℕ → List ℕ → List ℕ → Stop → Type 0
MetAt s end f left (P.Between at) n k marks numbers sheet marks' numbers' sheet' r = Stopped s end f left at n k marks numbers sheet marks' numbers' sheet' r
MetAt s end f left (P.Inside place v) n k marks numbers sheet marks' numbers' sheet' r = Held s left place v n k marks numbers sheet marks' numbers' sheet' r

-- what a walk meets next, by where it stands
pub record Meets (s : List ℕ) (end : ℕ) (f : Flags) (left : ℕ) (place : Place) (n k : ℕ) (marks numbers sheet marks' numbers' sheet' : List ℕ) (r : Stop) : Type 0 where
  pub at : MetAt s end f left place n k marks numbers sheet marks' numbers' sheet' r
  pub counted : n ≤ r.n
  pub fits : r.k ≤ length marks'
  pub marks_same : length marks' ≡ length marks
  pub numbers_same : length numbers' ≡ length numbers
  pub sheet_same : length sheet' ≡ length sheet

-- between tokens no more tokens are numbered than bytes were read
abbrev pub Near : List ℕ → Place → ℕ → Type 0
Near s (P.Between at) n = (n ≤ at) × (at ≤ length s)
Near s (P.Inside place v) n = Unit {0}
