-- The reader as a function on the marks of tokens: what the private functions cite. What it is worth is shown against the grammar
-- (proofs/Agree.antt, proofs/Refusing.antt); the public call's contract speaks of the grammar alone.
use Rattle.std.specs.Prelude as Std
use Rattle.std.specs.Prelude.{Ok, Err, ◌≡◌, Bool, true, false, ◌||◌, List, [], ◌∷◌, ℕ, suc, ◌+◌, ◌≤◌, ◌<◌, eqb, ltb, length, get_or, drop, set}
use Rattle.std.proofs.lemmas.List.Edits.{sets}
use Rattle.cursor.specs.Answer.{Result, gives, refuses, pick}
use Rattle.cursor.specs.Refusals.{no_body_number, too_deep_number, unfinished, disagree}
use Rattle.tokens.specs.Token.{instance_kind, open_kind, close_start_kind, close_empty_kind, close_element_kind, value_kind, attribute_kind, entity_ref_kind, pi_target_kind, pi_data_kind, cdata_kind, char_ref_kind, substitution_kind}
use Rattle.tokens.specs.Walk.{walk_at, counted_of}
use Rattle.tokens.specs.declared.Flags.{Flags}
use Rattle.sheet.specs.Sheet.{marks_of, read_at}
use Rattle.body.specs.Grammar.{Rule, announces, kind_of}
use Rattle.body.specs.Verdict.{deepest}
use Rattle.body.specs.declared.reader.Misread.{Misread}
use Rattle.body.specs.declared.reader.Tag.{Tag}
use Rattle.body.specs.declared.reader.Tag.TheVariants as T

-- Where the reader stands. A stack has the word of each element that is open, the innermost first.
-- begin: before the first token. root: after a leading pair. tag: in an open tag, with whether it announces attributes, the word of its last
-- one (0 where there is none yet) and the element's own. inside: in content; where no element is open the root is over. done: after a closing
-- pair. target: after a PI target, with its word and the state that its data leaves.
pub data State : Type 0 where
  begin : State
  root : State
  tag : Bool → ℕ → ℕ → List ℕ → State
  inside : List ℕ → State
  done : State
  target : ℕ → State → State

pub data Out : Type 0 where
  accepted : Out
  refused : ℕ → ℕ → Out

-- a token's word and the state after it, or the answer
pub data Step : Type 0 where
  move : ℕ → State → Step
  stop : Out → Step

-- By which rule it reads: the narrow one, where announced and present are asked to agree, or the wide one.
abbrev pub AgreesBy : Bool → Bool → Bool → Type 0
AgreesBy true announced any = announced ≡ any
AgreesBy false announced any = Unit {0}

abbrev pub rule_of : Bool → Rule
rule_of strict mark any = AgreesBy strict (announces mark) any

-- a condition, where it is asked for
abbrev pub if_asked : Bool → Bool → Bool
if_asked true b = b
if_asked false b = true

-- whether a close token may follow the attribute with the word `last`: where attributes were announced there must be one
abbrev pub closes : Bool → ℕ → Bool
closes true last = ltb 0 last
closes false last = true

-- what a mark is of
abbrev pub is_open : ℕ → Bool
is_open mark = eqb (kind_of mark) open_kind

-- what a kind is
abbrev pub is_item : ℕ → Bool
is_item k = eqb k value_kind || (eqb k substitution_kind || (eqb k char_ref_kind || eqb k entity_ref_kind))

abbrev pub is_leaf : ℕ → Bool
is_leaf k = eqb k cdata_kind || is_item k

-- an open token, with the word w, below the elements of the stack
unfoldable pub opening : ℕ → Bool → ℕ → List ℕ → ℕ → Step
opening limit announced w st n = pick (ltb (length st) limit) (move w (tag announced 0 (suc n) st)) (stop (refused too_deep_number n))

-- the root's first token
abbrev pub rooted : ℕ → ℕ → Bool → ℕ → Step
rooted limit n announced k =
    pick (eqb k open_kind) (opening limit announced 0 [] n)
    (pick (eqb k instance_kind) (move 0 (inside []))
    (stop (refused no_body_number n)))

-- a token that the wide grammar allows here: on to the state s, or 20
abbrev pub asking : Bool → ℕ → State → ℕ → Step
asking b w s n = pick b (move w s) (stop (refused disagree n))

-- token n, which is of the kind k and announces attributes or not
unfoldable pub turn : Bool → ℕ → State → ℕ → Bool → ℕ → Step
turn strict limit begin n announced k = pick (eqb k pi_target_kind) (move 0 (target 0 root)) (rooted limit n announced k)
turn strict limit root n announced k = rooted limit n announced k
turn strict limit (tag c a w st) n announced k =
    pick (eqb k attribute_kind) (asking (if_asked strict c) w (tag c (suc n) w st) n)
    (pick (eqb k close_empty_kind) (asking (if_asked strict (closes c a)) w (inside st) n)
    (pick (eqb k close_start_kind) (asking (if_asked strict (closes c a)) w (inside (w ∷ st)) n)
    (pick (eqb a 0) (stop (refused no_body_number n))
    (pick (is_item k) (move a (tag c a w st))
    (stop (refused no_body_number n))))))
turn strict limit (inside []) n announced k = pick (eqb k pi_target_kind) (move 0 (target 0 done)) (stop (refused no_body_number n))
turn strict limit done n announced k = stop (refused no_body_number n)
turn strict limit (inside (w ∷ st)) n announced k =
    pick (eqb k close_element_kind) (move w (inside st))
    (pick (eqb k open_kind) (opening limit announced w (w ∷ st) n)
    (pick (eqb k pi_target_kind) (move w (target w (inside (w ∷ st))))
    (pick (is_leaf k) (move w (inside (w ∷ st)))
    (stop (refused no_body_number n)))))
turn strict limit (target w s) n announced k = pick (eqb k pi_data_kind) (move w s) (stop (refused no_body_number n))

-- token n, with its mark
abbrev pub step : Bool → ℕ → State → ℕ → ℕ → Step
step strict limit s n mark = turn strict limit s n (announces mark) (kind_of mark)

-- the answer where the tokens end
unfoldable pub ended : State → ℕ → Out
ended begin n = refused unfinished n
ended root n = refused unfinished n
ended (tag c a w st) n = refused unfinished n
ended (inside []) n = accepted
ended (inside (w ∷ st)) n = refused unfinished n
ended done n = accepted
ended (target w s) n = refused unfinished n

-- from a state at token n on: the answer, and the words of the tokens that were read
unfoldable pub outcome : Bool → ℕ → State → ℕ → List ℕ → Out
outcome strict limit s n [] = ended s n
outcome strict limit s n (k ∷ ks) = elim (step strict limit s n k) [ move w s' ↦ outcome strict limit s' (suc n) ks | stop o ↦ o ]

unfoldable pub words_from : Bool → ℕ → State → ℕ → List ℕ → List ℕ
words_from strict limit s n [] = []
words_from strict limit s n (k ∷ ks) =
    elim (step strict limit s n k) [ move w s' ↦ w ∷ words_from strict limit s' (suc n) ks | stop o ↦ [] ]

-- both by the narrow rule, with the words put into a table where it has room
unfoldable pub walk : List ℕ → State → ℕ → List ℕ → Out × List ℕ
walk t s n table = (outcome true deepest s n (drop n t), sets table n (words_from true deepest s n (drop n t)))

-- why a reader refuses, by its number and place
abbrev pub misread_of : ℕ → ℕ → Misread
misread_of number place = record { place = place; number = number }

-- a token of a stream's stands there
abbrev pub TokenAt : List ℕ → ℕ → Type 0
TokenAt t at = (at < length t) × (length t ≤ 65536)

-- a reader that goes on has read a token at least, and stays within the tokens
abbrev pub further : List ℕ → ℕ → Std.Result ℕ Misread → Type 0
further t at (Ok j) = (at < j) × (j ≤ length t)
further t at (Err r) = Unit {0}

abbrev pub TagFurther : List ℕ → ℕ → Std.Result Tag Misread → Type 0
TagFurther t at (Ok (T.Empty j)) = (at < j) × (j ≤ length t)
TagFurther t at (Ok (T.Full j)) = (at < j) × (j ≤ length t)
TagFurther t at (Err r) = Unit {0}

-- the whole answer, where a reader's answer leaves the state s behind it
abbrev pub resume : List ℕ → State → Std.Result ℕ Misread → List ℕ → Out × List ℕ
resume t s (Ok j) table = walk t s j table
resume t s (Err r) table = (refused r.number r.place, table)

abbrev pub tag_resume : List ℕ → ℕ → List ℕ → Std.Result Tag Misread → List ℕ → Out × List ℕ
tag_resume t me st (Ok (T.Empty j)) table = walk t (inside st) j table
tag_resume t me st (Ok (T.Full j)) table = walk t (inside (me ∷ st)) j table
tag_resume t me st (Err r) table = (refused r.number r.place, table)

-- the whole answer from an open token at `at` on
abbrev pub on_step : List ℕ → ℕ → List ℕ → Step → Out × List ℕ
on_step t at table (move w s) = walk t s (suc at) (set table at w)
on_step t at table (stop o) = (o, table)

abbrev pub opened : List ℕ → ℕ → ℕ → List ℕ → List ℕ → Out × List ℕ
opened t at w st table = on_step t at table (opening deepest (announces (get_or t at 0)) w st at)

-- A reader's answer and table are those of the whole, whatever elements are open above it: the stack `st` has their words.
abbrev pub ElementRead : List ℕ → ℕ → ℕ → ℕ → List ℕ → Std.Result ℕ Misread → List ℕ → Type 0
ElementRead t at above w table r left = (st : List ℕ) → length st ≡ above → resume t (inside st) r left ≡ opened t at w st table

-- Content is that of the element of a level, the innermost of so many; at level 0 there is the root alone, whose open token comes first.
abbrev pub Placed : List ℕ → ℕ → ℕ → ℕ → Type 0
Placed t at level me = level ≡ 0 → (at < length t) × (is_open (get_or t at 0) ≡ true) × (me ≡ 0)

abbrev pub ContentRead : List ℕ → ℕ → ℕ → ℕ → List ℕ → Std.Result ℕ Misread → List ℕ → Type 0
ContentRead t at level me table r left =
    (level ≡ 0 → resume t (inside []) r left ≡ walk t root at table)
    × ((st : List ℕ) → suc (length st) ≡ level → resume t (inside st) r left ≡ walk t (inside (me ∷ st)) at table)

abbrev pub LeafRead : List ℕ → ℕ → ℕ → List ℕ → Std.Result ℕ Misread → List ℕ → Type 0
LeafRead t at me table r left = (st : List ℕ) → resume t (inside (me ∷ st)) r left ≡ walk t (inside (me ∷ st)) at table

abbrev pub TagRead : Bool → List ℕ → ℕ → ℕ → ℕ → List ℕ → Std.Result Tag Misread → List ℕ → Type 0
TagRead announced t at last me table r left = (st : List ℕ) → tag_resume t me st r left ≡ walk t (tag announced last me st) at table

-- leaves in content, none or more, and the close token, if it follows: then the element is over
abbrev pub LeavesRead : List ℕ → ℕ → ℕ → List ℕ → Std.Result Tag Misread → List ℕ → Type 0
LeavesRead t at me table r left =
    ((before : ℕ) → before < at → TagFurther t before r) × ((st : List ℕ) → tag_resume t me st r left ≡ walk t (inside (me ∷ st)) at table)

-- after an open token at `at`
abbrev pub OpenRead : List ℕ → ℕ → ℕ → List ℕ → Std.Result Tag Misread → List ℕ → Type 0
OpenRead t at me table r left = TagRead (announces (get_or t at 0)) t (at + 1) 0 me table r left

-- whatever attribute was the last, where a close token may follow; an item there has none before it
abbrev pub TagEndRead : List ℕ → ℕ → ℕ → List ℕ → Std.Result Tag Misread → List ℕ → Type 0
TagEndRead t at me table r left =
    (announced : Bool) (last : ℕ) → closes announced last ≡ true → (is_item (get_or t at 0) ≡ true → last ≡ 0) → TagRead announced t at last me table r left

-- the refusal of a token, by its mark, that is no attribute where attributes were announced
abbrev pub lacking_of : ℕ → ℕ
lacking_of mark = pick (eqb mark close_empty_kind) disagree (pick (eqb mark close_start_kind) disagree no_body_number)

-- a PI target and its data, from any state in which a target may stand, with the word w: s' is the state after the data
abbrev pub PairRead : List ℕ → ℕ → ℕ → List ℕ → Std.Result ℕ Misread → List ℕ → Type 0
PairRead t at w table r left = (s s' : State) → step true deepest s at pi_target_kind ≡ move w (target w s') → resume t s' r left ≡ walk t s at table

-- a reader's answer and table are those of the whole, from the state s on; s' is the state that it leaves
abbrev pub PartRead : State → State → List ℕ → ℕ → List ℕ → Std.Result ℕ Misread → List ℕ → Type 0
PartRead s s' t at table r left = resume t s' r left ≡ walk t s at table

-- a whole body's answer
abbrev pub whole_of : Std.Result ℕ Misread → List ℕ → Out × List ℕ
whole_of (Ok j) table = (accepted, table)
whole_of (Err r) table = (refused r.number r.place, table)

-- the verdict that the reader comes to
abbrev pub verdict_of : Out → List ℕ → Result (List ℕ)
verdict_of accepted words = gives words
verdict_of (refused k p) words = refuses k p

abbrev pub verdict_on : List ℕ → Result (List ℕ)
verdict_on marks = verdict_of (outcome true deepest begin 0 marks) (words_from true deepest begin 0 marks)

-- a stream, and a position in it
abbrev pub Within : List ℕ → ℕ → Type 0
Within s start = (start ≤ length s) × (length s ≤ 65536)

-- a walk that was read: its tokens have these marks
abbrev pub WalkNoted : List ℕ → ℕ → Flags → ℕ → List ℕ → Type 0
WalkNoted s end f start marks = (counted_of (walk_at s end f start) ≡ gives (length marks)) × (marks ≡ marks_of (read_at s end f start))
