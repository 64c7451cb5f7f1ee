-- The reader's step as a relation: which token may stand where, with which word. Assumes nothing.
use mathlib.Core.Path.{◌≡◌, refl, sym, ap, subst, ◌∙◌}
use mathlib.Core.Bool.{Bool, true, false, ◌||◌}
use mathlib.Core.List.{List, [], ◌∷◌}
use mathlib.Core.Logic.{◌⊎◌, inl, inr, ⊎_elim}
use Prim.Native.Nat.{ℕ, zero, suc, ◌≤◌, ◌<◌}
use native.Mathlib.Omega.{arith}
use borrow.Author.Tests.{eqb-true, eqb-false, ltb-true, ltb-false, eq-eqb, ne_eqb, lt-ltb, le-ltb}
use lib.Dec.{eqb, ltb}
use lib.ListN.{length}
use Rattle.cursor.specs.Answer.{pick}
use Rattle.cursor.proofs.Choice.{either}
use Rattle.body.specs.Grammar.{OneOfFour, a_value, a_substitution, a_char_ref, an_entity_ref}
use Rattle.body.specs.Reader.{State, begin, root, tag, inside, done, target, Out, accepted, refused, Step, move, stop, AgreesBy, if_asked, closes, is_item, is_leaf, opening, rooted, asking, turn}

-- the states in which the root may begin
pub data Start : State → Type 0 where
  at_first : Start begin
  after_pair : Start root

-- a condition is asked for by no other rule than the narrow one; what that allows, every rule does
pub if_always : (r : Bool) → if_asked r true ≡ true
if_always true = refl
if_always false = refl

pub if_narrow : (r b : Bool) → if_asked true b ≡ true → if_asked r b ≡ true
if_narrow true b h = h
if_narrow false b h = refl

-- after an attribute a close token may follow
pub closes_some : (c : Bool) (a : ℕ) → 0 < a → closes c a ≡ true
closes_some true a h = lt-ltb 0 a h
closes_some false a h = refl

pub if_some : (r c : Bool) (a : ℕ) → 0 < a → if_asked r (closes c a) ≡ true
if_some true c a h = closes_some c a h
if_some false c a h = refl

-- in the state s token n may be of the kind k, and b says whether it announces attributes; its word is then w, and s' the state after it
pub data Move (r : Bool) (limit n : ℕ) (b : Bool) (k : ℕ) : State → ℕ → State → Type 0 where
  m_leading : k ≡ 9 → Move r limit n b k begin 0 (target 0 root)
  m_instance : {s : State} → Start s → k ≡ 1 → Move r limit n b k s 0 (inside [])
  m_root : {s : State} → Start s → k ≡ 2 → 0 < limit → Move r limit n b k s 0 (tag b 0 (suc n) [])
  m_attribute : {c : Bool} {a w : ℕ} {st : List ℕ} → k ≡ 7 → if_asked r c ≡ true → Move r limit n b k (tag c a w st) w (tag c (suc n) w st)
  m_empty : {c : Bool} {a w : ℕ} {st : List ℕ} → k ≡ 4 → if_asked r (closes c a) ≡ true → Move r limit n b k (tag c a w st) w (inside st)
  m_start : {c : Bool} {a w : ℕ} {st : List ℕ} → k ≡ 3 → if_asked r (closes c a) ≡ true → Move r limit n b k (tag c a w st) w (inside (w ∷ st))
  m_tag_item : {c : Bool} {a w : ℕ} {st : List ℕ} → OneOfFour k → (a ≡ 0 → ⊥) → Move r limit n b k (tag c a w st) a (tag c a w st)
  m_close : {w : ℕ} {st : List ℕ} → k ≡ 5 → Move r limit n b k (inside (w ∷ st)) w (inside st)
  m_child : {w : ℕ} {st : List ℕ} → k ≡ 2 → suc (length st) < limit → Move r limit n b k (inside (w ∷ st)) w (tag b 0 (suc n) (w ∷ st))
  m_target : {w : ℕ} {st : List ℕ} → k ≡ 9 → Move r limit n b k (inside (w ∷ st)) w (target w (inside (w ∷ st)))
  m_cdata : {w : ℕ} {st : List ℕ} → k ≡ 11 → Move r limit n b k (inside (w ∷ st)) w (inside (w ∷ st))
  m_item : {w : ℕ} {st : List ℕ} → OneOfFour k → Move r limit n b k (inside (w ∷ st)) w (inside (w ∷ st))
  m_closing : k ≡ 9 → Move r limit n b k (inside []) 0 (target 0 done)
  m_data : {w : ℕ} {s : State} → k ≡ 10 → Move r limit n b k (target w s) w s

-- a move is the step's answer
module _ (r : Bool) (limit n : ℕ) (b : Bool) (k : ℕ) (s : State) (w : ℕ) (s' : State) where
  on_kind : (c : ℕ) → turn r limit s n b c ≡ move w s' → k ≡ c → turn r limit s n b k ≡ move w s'
  on_kind c h e = subst (λ (x : ℕ). turn r limit s n b x ≡ move w s') (sym e) h

item_in_tag : (r : Bool) (limit n : ℕ) (b : Bool) (k : ℕ) (c : Bool) (a w : ℕ) (st : List ℕ) → OneOfFour k → (a ≡ 0 → ⊥)
    → turn r limit (tag c a w st) n b k ≡ move a (tag c a w st)
unfolding turn
item_in_tag r limit n b k c a w st a_value h = rw (ne_eqb a 0 h)
item_in_tag r limit n b k c a w st a_substitution h = rw (ne_eqb a 0 h)
item_in_tag r limit n b k c a w st a_char_ref h = rw (ne_eqb a 0 h)
item_in_tag r limit n b k c a w st an_entity_ref h = rw (ne_eqb a 0 h)

item_inside : (r : Bool) (limit n : ℕ) (b : Bool) (k w : ℕ) (st : List ℕ) → OneOfFour k → turn r limit (inside (w ∷ st)) n b k ≡ move w (inside (w ∷ st))
unfolding turn
item_inside r limit n b k w st a_value = refl
item_inside r limit n b k w st a_substitution = refl
item_inside r limit n b k w st a_char_ref = refl
item_inside r limit n b k w st an_entity_ref = refl

opens : (limit : ℕ) (b : Bool) (w : ℕ) (st : List ℕ) (n : ℕ) → length st < limit → opening limit b w st n ≡ move w (tag b 0 (suc n) st)
unfolding opening
opens limit b w st n h = rw (lt-ltb (length st) limit h)

allowed : (x : Bool) (w : ℕ) (s : State) (n : ℕ) → x ≡ true → asking x w s n ≡ move w s
allowed x w s n h = ap (λ (y : Bool). asking y w s n) h

pub moves : {r : Bool} {limit n : ℕ} {b : Bool} {k w : ℕ} {s s' : State} → Move r limit n b k s w s' → turn r limit s n b k ≡ move w s'
unfolding turn
moves {r} {limit} {n} {b} {k} (m_leading e) = on_kind r limit n b k begin 0 (target 0 root) 9 refl e
moves {r} {limit} {n} {b} {k} (m_instance at_first e) = on_kind r limit n b k begin 0 (inside []) 1 refl e
moves {r} {limit} {n} {b} {k} (m_instance after_pair e) = on_kind r limit n b k root 0 (inside []) 1 refl e
moves {r} {limit} {n} {b} {k} (m_root at_first e h) = on_kind r limit n b k begin 0 (tag b 0 (suc n) []) 2 (opens limit b 0 [] n h) e
moves {r} {limit} {n} {b} {k} (m_root after_pair e h) = on_kind r limit n b k root 0 (tag b 0 (suc n) []) 2 (opens limit b 0 [] n h) e
moves {r} {limit} {n} {b} {k} (m_attribute {c} {a} {w} {st} e h) =
    on_kind r limit n b k (tag c a w st) w (tag c (suc n) w st) 7 (allowed (if_asked r c) w (tag c (suc n) w st) n h) e
moves {r} {limit} {n} {b} {k} (m_empty {c} {a} {w} {st} e h) =
    on_kind r limit n b k (tag c a w st) w (inside st) 4 (allowed (if_asked r (closes c a)) w (inside st) n h) e
moves {r} {limit} {n} {b} {k} (m_start {c} {a} {w} {st} e h) =
    on_kind r limit n b k (tag c a w st) w (inside (w ∷ st)) 3 (allowed (if_asked r (closes c a)) w (inside (w ∷ st)) n h) e
moves {r} {limit} {n} {b} {k} (m_tag_item {c} {a} {w} {st} i h) = item_in_tag r limit n b k c a w st i h
moves {r} {limit} {n} {b} {k} (m_close {w} {st} e) = on_kind r limit n b k (inside (w ∷ st)) w (inside st) 5 refl e
moves {r} {limit} {n} {b} {k} (m_child {w} {st} e h) =
    on_kind r limit n b k (inside (w ∷ st)) w (tag b 0 (suc n) (w ∷ st)) 2 (opens limit b w (w ∷ st) n h) e
moves {r} {limit} {n} {b} {k} (m_target {w} {st} e) = on_kind r limit n b k (inside (w ∷ st)) w (target w (inside (w ∷ st))) 9 refl e
moves {r} {limit} {n} {b} {k} (m_cdata {w} {st} e) = on_kind r limit n b k (inside (w ∷ st)) w (inside (w ∷ st)) 11 refl e
moves {r} {limit} {n} {b} {k} (m_item {w} {st} i) = item_inside r limit n b k w st i
moves {r} {limit} {n} {b} {k} (m_closing e) = on_kind r limit n b k (inside []) 0 (target 0 done) 9 refl e
moves {r} {limit} {n} {b} {k} (m_data {w} {s} e) = on_kind r limit n b k (target w s) w s 10 refl e

-- a higher limit allows as much, and so does a rule that asks for no more
module _ (r q : Bool) (asks : (x : Bool) → if_asked r x ≡ true → if_asked q x ≡ true) where
  pub eased : {l n : ℕ} {b : Bool} {k w : ℕ} {s s' : State} (m : ℕ) → l ≤ m → Move r l n b k s w s' → Move q m n b k s w s'
  eased m h (m_leading e) = m_leading e
  eased m h (m_instance b e) = m_instance b e
  eased m h (m_root b e g) = m_root b e (omega arith)
  eased m h (m_attribute {c} e g) = m_attribute e (asks c g)
  eased m h (m_empty {c} {a} e g) = m_empty e (asks (closes c a) g)
  eased m h (m_start {c} {a} e g) = m_start e (asks (closes c a) g)
  eased m h (m_tag_item i g) = m_tag_item i g
  eased m h (m_close e) = m_close e
  eased m h (m_child {st = st} e g) = m_child {st = st} e (omega arith)
  eased m h (m_target e) = m_target e
  eased m h (m_cdata e) = m_cdata e
  eased m h (m_item i) = m_item i
  eased m h (m_closing e) = m_closing e
  eased m h (m_data e) = m_data e

-- no token is of the kind 0
item_not_zero : {k : ℕ} → OneOfFour k → k ≡ 0 → ⊥
item_not_zero a_value e = omega arith
item_not_zero a_substitution e = omega arith
item_not_zero a_char_ref e = omega arith
item_not_zero an_entity_ref e = omega arith

pub not_zero : {r : Bool} {l n : ℕ} {b : Bool} {k w : ℕ} {s s' : State} → Move r l n b k s w s' → k ≡ 0 → ⊥
not_zero (m_leading e) z = omega arith
not_zero (m_instance b e) z = omega arith
not_zero (m_root b e h) z = omega arith
not_zero (m_attribute e h) z = omega arith
not_zero (m_empty e h) z = omega arith
not_zero (m_start e h) z = omega arith
not_zero (m_tag_item i h) z = item_not_zero i z
not_zero (m_close e) z = omega arith
not_zero (m_child e h) z = omega arith
not_zero (m_target e) z = omega arith
not_zero (m_cdata e) z = omega arith
not_zero (m_item i) z = item_not_zero i z
not_zero (m_closing e) z = omega arith
not_zero (m_data e) z = omega arith

-- how many elements are open
unfoldable pub depth : State → ℕ
depth begin = 0
depth root = 0
depth (tag c a w st) = suc (length st)
depth (inside st) = length st
depth done = 0
depth (target w s) = depth s

-- within the limit it stays within the limit
pub shallow : {r : Bool} {l n : ℕ} {b : Bool} {k w : ℕ} {s s' : State} → Move r l n b k s w s' → depth s ≤ l → depth s' ≤ l
unfolding depth
shallow (m_leading e) d = d
shallow (m_instance b e) d = omega arith
shallow (m_root b e h) d = omega arith
shallow (m_attribute e h) d = d
shallow (m_empty e h) d = omega arith
shallow (m_start e h) d = d
shallow (m_tag_item i h) d = d
shallow (m_close e) d = omega arith
shallow (m_child e h) d = omega arith
shallow (m_target e) d = d
shallow (m_cdata e) d = d
shallow (m_item i) d = d
shallow (m_closing e) d = d
shallow (m_data e) d = d

-- what a step's answer says
pub data Says (r : Bool) (limit n : ℕ) (b : Bool) (k : ℕ) (s : State) : Step → Type 0 where
  goes : (w : ℕ) (s' : State) → Move r limit n b k s w s' → Says r limit n b k s (move w s')
  wrong : ((l w : ℕ) (s' : State) → Move false l n b k s w s' → ⊥) → Says r limit n b k s (stop (refused 13 n))
  deep : (w : ℕ) (s' : State) → k ≡ 2 → (depth s ≤ limit → Move r (suc limit) n b k s w s') → Says r limit n b k s (stop (refused 14 n))
  differs : (w : ℕ) (s' : State) → ((l : ℕ) → Move false l n b k s w s') → ((l w : ℕ) (s' : State) → Move true l n b k s w s' → ⊥)
      → Says r limit n b k s (stop (refused 20 n))

-- a choice by a kind
tested : (P : Step → Type 0) (k c : ℕ) (x y : Step) → (k ≡ c → P x) → ((k ≡ c → ⊥) → P y) → P (pick (eqb k c) x y)
tested P k c x y f g = either P (eqb k c) x y (λ e. f (eqb-true k c e)) (λ e. g (eqb-false k c e))

or_true : (a b : Bool) → (a || b) ≡ true → (a ≡ true) ⊎ (b ≡ true)
or_true true b e = inl refl
or_true false b e = inr e

or_false_left : (a b : Bool) → (a || b) ≡ false → a ≡ true → ⊥
or_false_left true b e f = let z : ◌≡◌ {A = ℕ} 0 1 = cc in omega arith
or_false_left false b e f = let z : ◌≡◌ {A = ℕ} 0 1 = cc in omega arith

or_false_right : (a b : Bool) → (a || b) ≡ false → b ≡ false
or_false_right true b e = let z : ◌≡◌ {A = ℕ} 0 1 = cc in absurd (omega arith)
or_false_right false b e = e

to_item : (k c : ℕ) → OneOfFour c → eqb k c ≡ true → OneOfFour k
to_item k c i e = subst OneOfFour (sym (eqb-true k c e)) i

pub is_item_lem : (k : ℕ) → is_item k ≡ true → OneOfFour k
is_item_lem k e =
    ⊎_elim (to_item k 6 a_value)
    (λ f. ⊎_elim (to_item k 13 a_substitution)
    (λ g. ⊎_elim (to_item k 12 a_char_ref) (to_item k 8 an_entity_ref) (or_true (eqb k 12) (eqb k 8) g))
    (or_true (eqb k 13) (eqb k 12 || eqb k 8) f))
    (or_true (eqb k 6) (eqb k 13 || (eqb k 12 || eqb k 8)) e)

pub no_item : (k : ℕ) → is_item k ≡ false → OneOfFour k → ⊥
no_item k e a_value = let z : ◌≡◌ {A = ℕ} 0 1 = cc in omega arith
no_item k e a_substitution = let z : ◌≡◌ {A = ℕ} 0 1 = cc in omega arith
no_item k e a_char_ref = let z : ◌≡◌ {A = ℕ} 0 1 = cc in omega arith
no_item k e an_entity_ref = let z : ◌≡◌ {A = ℕ} 0 1 = cc in omega arith

-- a choice by whether a kind is an item's
item_tested : (P : Step → Type 0) (k : ℕ) (x y : Step) → (OneOfFour k → P x) → ((OneOfFour k → ⊥) → P y) → P (pick (is_item k) x y)
item_tested P k x y f g = either P (is_item k) x y (λ e. f (is_item_lem k e)) (λ e. g (no_item k e))

leaf_tested : (P : Step → Type 0) (k : ℕ) (x y : Step) → (k ≡ 11 → P x) → (OneOfFour k → P x) → ((k ≡ 11 → ⊥) → (OneOfFour k → ⊥) → P y) → P (pick (is_leaf k) x y)
leaf_tested P k x y f h g =
    either P (is_leaf k) x y
    (λ e. ⊎_elim (λ c. f (eqb-true k 11 c)) (λ i. h (is_item_lem k i)) (or_true (eqb k 11) (is_item k) e))
    (λ e. g (λ c. or_false_left (eqb k 11) (is_item k) e (eq-eqb k 11 c)) (no_item k (or_false_right (eqb k 11) (is_item k) e)))

no_start : Start done → ⊥
no_start = elim [ ]

-- where a state has no move, by any rule
module _ (r : Bool) (l n : ℕ) (b : Bool) (k : ℕ) where
  at_start : (w : ℕ) (s s' : State) → Start s → (s ≡ begin → k ≡ 9 → ⊥) → (k ≡ 2 → ⊥) → (k ≡ 1 → ⊥) → Move r l n b k s w s' → ⊥
  at_start w s s' h c x y (m_leading e) = c refl e
  at_start w s s' h c x y (m_instance g e) = y e
  at_start w s s' h c x y (m_root g e o) = x e
  at_start w _ _ h c x y (m_attribute {a = a} {st = st} _ _) = elim h [ ]
  at_start w _ _ h c x y (m_empty {a = a} {st = st} _ _) = elim h [ ]
  at_start w _ _ h c x y (m_start {a = a} {st = st} _ _) = elim h [ ]
  at_start w _ _ h c x y (m_tag_item {st = st} _ _) = elim h [ ]
  at_start w _ _ h c x y (m_close {st = st} _) = elim h [ ]
  at_start w _ _ h c x y (m_child {st = st} _ _) = elim h [ ]
  at_start w _ _ h c x y (m_target {st = st} _) = elim h [ ]
  at_start w _ _ h c x y (m_cdata {st = st} _) = elim h [ ]
  at_start w _ _ h c x y (m_item {st = st} _) = elim h [ ]
  at_start _ _ _ h c x y (m_closing _) = elim h [ ]
  at_start w _ _ h c x y (m_data {s = s} _) = elim h [ ]

  in_tag : (w : ℕ) (s' : State) (c : Bool) (a v : ℕ) (st : List ℕ) → (k ≡ 7 → if_asked r c ≡ true → ⊥) → (k ≡ 4 → if_asked r (closes c a) ≡ true → ⊥)
      → (k ≡ 3 → if_asked r (closes c a) ≡ true → ⊥) → (OneOfFour k → (a ≡ 0 → ⊥) → ⊥) → Move r l n b k (tag c a v st) w s' → ⊥
  in_tag w s' c a v st x y z i (m_attribute e g) = x e g
  in_tag w s' c a v st x y z i (m_empty e g) = y e g
  in_tag w s' c a v st x y z i (m_start e g) = z e g
  in_tag w s' c a v st x y z i (m_tag_item e h) = i e h
  in_tag _ _ c a v st x y z i (m_instance x16 _) = elim x16 [ ]
  in_tag _ _ c a v st x y z i (m_root x20 _ _) = elim x20 [ ]

  in_content : (w : ℕ) (s' : State) (v : ℕ) (st : List ℕ) → (k ≡ 5 → ⊥) → (k ≡ 2 → ⊥) → (k ≡ 9 → ⊥) → (k ≡ 11 → ⊥) → (OneOfFour k → ⊥)
      → Move r l n b k (inside (v ∷ st)) w s' → ⊥
  in_content w s' v st x y z u i (m_close e) = x e
  in_content w s' v st x y z u i (m_child e h) = y e
  in_content w s' v st x y z u i (m_target e) = z e
  in_content w s' v st x y z u i (m_cdata e) = u e
  in_content w s' v st x y z u i (m_item e) = i e
  in_content _ _ v st x y z u i (m_instance x18 _) = elim x18 [ ]
  in_content _ _ v st x y z u i (m_root x22 _ _) = elim x22 [ ]

  after_root : (w : ℕ) (s' : State) → (k ≡ 9 → ⊥) → Move r l n b k (inside []) w s' → ⊥
  after_root w s' a (m_closing e) = a e
  after_root _ _ a (m_instance x9 _) = elim x9 [ ]
  after_root _ _ a (m_root x13 _ _) = elim x13 [ ]

  at_done : (w : ℕ) (s' : State) → Move r l n b k done w s' → ⊥
  at_done w s' (m_instance g e) = no_start g
  at_done w s' (m_root g e h) = no_start g

  after_target : (w : ℕ) (s s' : State) (v : ℕ) → (k ≡ 10 → ⊥) → Move r l n b k (target v s) w s' → ⊥
  after_target w s s' v a (m_data e) = a e
  after_target _ s _ v a (m_instance x9 _) = elim x9 [ ]
  after_target _ s _ v a (m_root x13 _ _) = elim x13 [ ]

opening_says : (r : Bool) (limit n : ℕ) (b : Bool) (k w : ℕ) (s : State) (st : List ℕ) → k ≡ 2 → depth s ≡ length st
    → ((l : ℕ) → length st < l → Move r l n b k s w (tag b 0 (suc n) st)) → Says r limit n b k s (opening limit b w st n)
unfolding opening
opening_says r limit n b k w s st e d f =
    either (Says r limit n b k s) (ltb (length st) limit) _ _
    (λ h. goes w (tag b 0 (suc n) st) (f limit (ltb-true (length st) limit h)))
    (λ h. deep w (tag b 0 (suc n) st) e (λ g. f (suc limit) (omega arith)))

root_not_begin : root ≡ begin → ⊥
root_not_begin e = let z : ◌≡◌ {A = ℕ} 0 1 = cc in omega arith

rooted_says : (r : Bool) (limit n : ℕ) (b : Bool) (k : ℕ) (s : State) → Start s → depth s ≡ 0 → (s ≡ begin → k ≡ 9 → ⊥)
    → Says r limit n b k s (rooted limit n b k)
rooted_says r limit n b k s h d c =
    let P = Says r limit n b k s in
    tested P k 2 _ _ (λ e. opening_says r limit n b k 0 s [] e d (λ l o. m_root h e o))
    (λ x. tested P k 1 _ _ (λ e. goes _ _ (m_instance h e))
    (λ y. wrong (λ l w s'. at_start false l n b k w s s' h c x y)))

-- a token that the wide rule allows: the narrow one does, or no move by it is one
asking_says : (r : Bool) (limit n : ℕ) (b : Bool) (k : ℕ) (s : State) (x : Bool) (w : ℕ) (s' : State) → (if_asked r x ≡ true → Move r limit n b k s w s')
    → ((l : ℕ) → Move false l n b k s w s') → ((l v : ℕ) (u : State) → Move true l n b k s v u → x ≡ true) → Says r limit n b k s (asking (if_asked r x) w s' n)
asking_says r limit n b k s x w s' f g h =
    either (Says r limit n b k s) (if_asked r x) _ _ (λ e. goes w s' (f e))
    (λ e. differs w s' g (λ l v u m.
    let y : true ≡ false = sym (if_narrow r x (h l v u m)) ∙ e in
    let z : ◌≡◌ {A = ℕ} 0 1 = cc in
    omega arith))

-- what the narrow rule asks of an attribute and of a close token
asks_attribute : (l n : ℕ) (b : Bool) (k : ℕ) (c : Bool) (a v : ℕ) (st : List ℕ) (w : ℕ) (s' : State) → k ≡ 7 → Move true l n b k (tag c a v st) w s' → c ≡ true
asks_attribute l n b k c a v st w s' x (m_attribute e g) = g
asks_attribute l n b k c a v st w s' x (m_empty e g) = absurd (omega arith)
asks_attribute l n b k c a v st w s' x (m_start e g) = absurd (omega arith)
asks_attribute l n b k c a v st w s' x (m_tag_item i g) = absurd (no_item k (subst (λ (y : ℕ). is_item y ≡ false) (sym x) refl) i)
asks_attribute l n b k c a v st _ _ x (m_instance x10 _) = elim x10 [ ]
asks_attribute l n b k c a v st _ _ x (m_root x14 _ _) = elim x14 [ ]

asks_close : (l n : ℕ) (b : Bool) (k : ℕ) (c : Bool) (a v : ℕ) (st : List ℕ) (w : ℕ) (s' : State) → is_item k ≡ false → (k ≡ 7 → ⊥)
    → Move true l n b k (tag c a v st) w s' → closes c a ≡ true
asks_close l n b k c a v st w s' x y (m_attribute e g) = absurd (y e)
asks_close l n b k c a v st w s' x y (m_empty e g) = g
asks_close l n b k c a v st w s' x y (m_start e g) = g
asks_close l n b k c a v st w s' x y (m_tag_item i g) = absurd (no_item k x i)
asks_close l n b k c a v st _ _ x y (m_instance x12 _) = elim x12 [ ]
asks_close l n b k c a v st _ _ x y (m_root x16 _ _) = elim x16 [ ]

pub says : (r : Bool) (limit n : ℕ) (b : Bool) (k : ℕ) (s : State) → Says r limit n b k s (turn r limit s n b k)
unfolding turn depth
says r limit n b k begin =
    tested (Says r limit n b k begin) k 9 _ _ (λ e. goes _ _ (m_leading e)) (λ c. rooted_says r limit n b k begin at_first refl (λ z. c))
says r limit n b k root = rooted_says r limit n b k root after_pair refl (λ z e. root_not_begin z)
says r limit n b k (tag c a v st) =
    let s = tag c a v st in
    let P = Says r limit n b k s in
    tested P k 7 _ _
    (λ e. asking_says r limit n b k s c v (tag c (suc n) v st) (λ h. m_attribute e h) (λ l. m_attribute e refl) (λ l w s' m. asks_attribute l n b k c a v st w s' e m))
    (λ x. tested P k 4 _ _
    (λ e. asking_says r limit n b k s (closes c a) v (inside st) (λ h. m_empty e h) (λ l. m_empty e refl)
    (λ l w s' m. asks_close l n b k c a v st w s' (subst (λ (y : ℕ). is_item y ≡ false) (sym e) refl) x m))
    (λ y. tested P k 3 _ _
    (λ e. asking_says r limit n b k s (closes c a) v (inside (v ∷ st)) (λ h. m_start e h) (λ l. m_start e refl)
    (λ l w s' m. asks_close l n b k c a v st w s' (subst (λ (y : ℕ). is_item y ≡ false) (sym e) refl) x m))
    (λ z. tested P a 0 _ _ (λ e. wrong (λ l w s'. in_tag false l n b k w s' c a v st (λ q g. x q) (λ q g. y q) (λ q g. z q) (λ i h. h e)))
    (λ h. item_tested P k _ _ (λ i. goes _ _ (m_tag_item i h))
    (λ i. wrong (λ l w s'. in_tag false l n b k w s' c a v st (λ q g. x q) (λ q g. y q) (λ q g. z q) (λ j g. i j)))))))
says r limit n b k (inside []) =
    tested (Says r limit n b k (inside [])) k 9 _ _ (λ e. goes _ _ (m_closing e)) (λ x. wrong (λ l w s'. after_root false l n b k w s' x))
says r limit n b k (inside (v ∷ st)) =
    let P = Says r limit n b k (inside (v ∷ st)) in
    tested P k 5 _ _ (λ e. goes _ _ (m_close e))
    (λ x. tested P k 2 _ _ (λ e. opening_says r limit n b k v (inside (v ∷ st)) (v ∷ st) e refl (λ l h. m_child {st = st} e h))
    (λ y. tested P k 9 _ _ (λ e. goes _ _ (m_target e))
    (λ z. leaf_tested P k _ _ (λ e. goes _ _ (m_cdata e)) (λ i. goes _ _ (m_item i))
    (λ u i. wrong (λ l w s'. in_content false l n b k w s' v st x y z u i)))))
says r limit n b k done = wrong (λ l w s'. at_done false l n b k w s')
says r limit n b k (target v s) =
    tested (Says r limit n b k (target v s)) k 10 _ _ (λ e. goes _ _ (m_data e)) (λ x. wrong (λ l w s'. after_target false l n b k w s s' v x))
