-- The walk over marks, token by token: a law for each way on that the readers take. Assumes nothing.
use Rattle.std.specs.Prelude.{Ok, Err, Result}
use Rattle.body.specs.declared.reader.Misread.{Misread}
use mathlib.Core.Path.{◌≡◌, refl, sym, ap, subst, ◌∙◌}
use mathlib.Core.Bool.{Bool, true, false}
use mathlib.Core.List.{List, [], ◌∷◌}
use Prim.Native.Nat.{ℕ, suc, ◌+◌, ◌≤◌, ◌<◌}
use native.Mathlib.Omega.{arith}
use native.Mathlib.Numerals.{add-one}
use native.Mathlib.Decide.{dec_le}
use borrow.Author.Tests.{lt-ltb, le-ltb, eqb-true, eq-eqb, ne_eqb}
use lib.Dec.{eqb}
use lib.ListN.{length, get_or, set, drop, drop_of_length-le}
use lib.Seq.{sets, drop-cons}
use Rattle.cursor.specs.Answer.{pick}
use Rattle.cursor.specs.Refusals.{no_body_number, too_deep_number, unfinished, disagree}
use Rattle.cursor.proofs.Choice.{either}
use Rattle.tokens.specs.Token.{instance_kind, open_kind, close_start_kind, close_empty_kind, close_element_kind, attribute_kind, pi_target_kind, pi_data_kind, value_kind, entity_ref_kind, char_ref_kind, substitution_kind}
use Rattle.body.specs.Grammar.{announcing_open, announces, kind_of}
use Rattle.body.specs.Verdict.{deepest}
use Rattle.body.specs.Reader.{State, begin, root, tag, inside, done, target, Out, accepted, refused, Step, move, stop, closes, asking, is_open, is_item, is_leaf, lacking_of, opening, turn, step, ended, outcome, words_from, walk, further, TagFurther, resume, tag_resume, on_step, opened}
use Rattle.body.specs.declared.reader.Tag.{Tag}
use Rattle.body.specs.declared.reader.Tag.TheVariants as T

-- what a step's answer makes of the rest
on_step_lem : (t : List ℕ) (n : ℕ) (table : List ℕ) (x : Step)
    → ◌≡◌ {A = Out × List ℕ}
    (elim x [ move w s ↦ outcome true deepest s (suc n) (drop (suc n) t) | stop o ↦ o ], sets table n (elim x [ move w s ↦ w ∷ words_from true deepest s (suc n) (drop (suc n) t) | stop o ↦ [] ]))
    (on_step t n table x)
unfolding walk
on_step_lem t n table (move w s) = refl
on_step_lem t n table (stop o) = refl

-- a mark is its kind's, or that of an open token which announces attributes
by_kind : {A : Type 0} (m : ℕ) → (m ≡ announcing_open → A) → (kind_of m ≡ m → A) → A
unfolding kind_of
by_kind {A} m f g =
    either (λ (b : Bool). A) (eqb m announcing_open) true false (λ e. f (eqb-true m announcing_open e)) (λ e. g (rw e))

announcing_kind : kind_of announcing_open ≡ open_kind
unfolding kind_of
announcing_kind = refl

-- a test for another kind is one of the mark
same_test : (c : ℕ) → (c ≡ open_kind → ⊥) → (c ≡ announcing_open → ⊥) → (m : ℕ) → eqb (kind_of m) c ≡ eqb m c
same_test c f g m =
    by_kind m
    (λ e.
    ne_eqb (kind_of m) c (λ z. f (sym z ∙ ap kind_of e ∙ announcing_kind)) ∙ sym (ne_eqb m c (λ z. g (sym z ∙ e))))
    (λ e. ap (λ (x : ℕ). eqb x c) e)

same_item : (m : ℕ) → is_item (kind_of m) ≡ is_item m
same_item m =
    by_kind m
    (λ e. ap (λ (x : ℕ). is_item (kind_of x)) e ∙ ap is_item announcing_kind ∙ sym (ap is_item e))
    (λ e. ap is_item e)

same_leaf : (m : ℕ) → is_leaf (kind_of m) ≡ is_leaf m
same_leaf m =
    by_kind m
    (λ e. ap (λ (x : ℕ). is_leaf (kind_of x)) e ∙ ap is_leaf announcing_kind ∙ sym (ap is_leaf e))
    (λ e. ap is_leaf e)

-- what is no such kind
other : (c : ℕ) → (c ≡ open_kind → ⊥) → (c ≡ announcing_open → ⊥) → (m : ℕ) → (m ≡ c → ⊥) → eqb (kind_of m) c ≡ false
other c f g m h = same_test c f g m ∙ ne_eqb m c h

-- an open token, by its mark
pub open_plain : (m : ℕ) → m ≡ open_kind → true ≡ is_open m
unfolding kind_of
open_plain m e = ap is_open (sym e)

pub open_announcing : (m : ℕ) (b : Bool) → (m ≡ open_kind → ⊥) → b ≡ announces m → b ≡ is_open m
open_announcing m b h e =
    e ∙ by_kind m
    (λ a. eq-eqb m announcing_open a ∙ sym (eq-eqb (kind_of m) open_kind (ap kind_of a ∙ announcing_kind)))
    (λ a. ne_eqb m announcing_open (λ z. omega (arith, ap kind_of z ∙ announcing_kind, a)) ∙ sym (ne_eqb (kind_of m) open_kind (λ z. h (sym a ∙ z))))

-- an item and a leaf are of no other kind
item_is_not : (k c : ℕ) → is_item c ≡ false → is_item k ≡ true → k ≡ c → ⊥
item_is_not k c f h e =
    let a : true ≡ false = sym h ∙ ap is_item e ∙ f in
    let z : ◌≡◌ {A = ℕ} 0 1 = cc in
    omega arith

leaf_is_not : (k c : ℕ) → is_leaf c ≡ false → is_leaf k ≡ true → k ≡ c → ⊥
leaf_is_not k c f h e =
    let a : true ≡ false = sym h ∙ ap is_leaf e ∙ f in
    let z : ◌≡◌ {A = ℕ} 0 1 = cc in
    omega arith

-- a number that is not 0, and a test that has two answers
pub above_zero : (a : ℕ) → (a ≡ 0 → ⊥) → 0 < a
above_zero a h = omega arith

pub not_told : {A : Type 0} (x : Bool) → x ≡ false → x ≡ true → A
not_told x e f =
    let z : ◌≡◌ {A = ℕ} 0 1 = cc in
    absurd (omega arith)

-- what kinds are items
pub no_item : (k : ℕ) → (k ≡ value_kind → ⊥) → (k ≡ entity_ref_kind → ⊥) → (k ≡ char_ref_kind → ⊥) → (k ≡ substitution_kind → ⊥) → false ≡ is_item k
no_item k v e c s = rw (ne_eqb k value_kind v, ne_eqb k substitution_kind s, ne_eqb k char_ref_kind c, ne_eqb k entity_ref_kind e)

pub late_item : (k : ℕ) → char_ref_kind ≤ k → k ≤ substitution_kind → true ≡ is_item k
late_item k l h =
    elim (dec_le k char_ref_kind) [
      | yes u ↦ let e : char_ref_kind ≡ k = omega arith in ap is_item e
      | no u ↦ let e : substitution_kind ≡ k = omega arith in ap is_item e
    ]

-- a choice that comes to the same
last_of : {A : Type 0} (b i : Bool) (x y : A) → (i ≡ true → b ≡ true) → pick b x (pick i y x) ≡ x
last_of true i x y h = refl
last_of false true x y h =
    let e = h refl in
    let z : ◌≡◌ {A = ℕ} 0 1 = cc in
    absurd (omega arith)
last_of false false x y h = refl

lacks : (x y : Bool) (n : ℕ)
    → pick x (stop (refused disagree n)) (pick y (stop (refused disagree n)) (stop (refused no_body_number n))) ≡ stop (refused (pick x disagree (pick y disagree no_body_number)) n)
lacks true y n = refl
lacks false true n = refl
lacks false false n = refl

module _ (t : List ℕ) (n : ℕ) (table : List ℕ) where
  walk_step : (s : State) → n < length t → walk t s n table ≡ on_step t n table (step true deepest s n (get_or t n 0))
  unfolding walk outcome words_from
  walk_step s h = rw (drop-cons t n 0 h) (on_step_lem t n table (step true deepest s n (get_or t n 0)))

  walk_ended : (s : State) → length t ≤ n → (ended s n, table) ≡ walk t s n table
  unfolding walk outcome words_from
  walk_ended s h = rw (drop_of_length-le t h)

  -- a token that moves on, and one that stops the walk
  walk_on : (s s' : State) (w : ℕ) (left : List ℕ) → n < length t → step true deepest s n (get_or t n 0) ≡ move w s' → left ≡ set table n w
      → walk t s' (n + 1) left ≡ walk t s n table
  walk_on s s' w left h e l =
      ap (walk t s' (n + 1)) l ∙ ap (λ (m : ℕ). walk t s' m (set table n w)) (add-one n)
      ∙ sym (walk_step s h ∙ ap (on_step t n table) e)

  walk_stop : (s : State) (o : Out) → n < length t → step true deepest s n (get_or t n 0) ≡ stop o → (o, table) ≡ walk t s n table
  walk_stop s o h e = sym (walk_step s h ∙ ap (on_step t n table) e)

  -- the end of the tokens in an open tag, in content, after a PI target, and before the root
  pub tag_ended : (c : Bool) (a w : ℕ) (st : List ℕ) → length t ≤ n → (refused unfinished n, table) ≡ walk t (tag c a w st) n table
  unfolding ended
  tag_ended c a w st h = walk_ended (tag c a w st) h

  pub inside_ended : (w : ℕ) (st : List ℕ) → length t ≤ n → (refused unfinished n, table) ≡ walk t (inside (w ∷ st)) n table
  unfolding ended
  inside_ended w st h = walk_ended (inside (w ∷ st)) h

  pub target_ended : (w : ℕ) (s : State) → length t ≤ n → (refused unfinished n, table) ≡ walk t (target w s) n table
  unfolding ended
  target_ended w s h = walk_ended (target w s) h

  pub root_ended : length t ≤ n → (refused unfinished n, table) ≡ walk t root n table
  unfolding ended
  root_ended h = walk_ended root h

  -- no token before the root: it begins there
  pub begin_ended : length t ≤ n → walk t root n table ≡ walk t begin n table
  unfolding ended
  begin_ended h = sym (walk_ended root h) ∙ walk_ended begin h

  module _ (h : n < length t) where
    -- in an open tag: an attribute where there may be one and where not, an item after one, the close tokens where one may follow, and any
    -- other token
    pub tag_attribute : (a w : ℕ) (st left : List ℕ) → get_or t n 0 ≡ attribute_kind → left ≡ set table n w
        → walk t (tag true (n + 1) w st) (n + 1) left ≡ walk t (tag true a w st) n table
    unfolding turn kind_of
    tag_attribute a w st left e l =
        ap (λ (m : ℕ). walk t (tag true m w st) (n + 1) left) (add-one n)
        ∙ walk_on (tag true a w st) (tag true (suc n) w st) w left h (ap (step true deepest (tag true a w st) n) e) l

    pub plain_attribute : (a w : ℕ) (st : List ℕ) → get_or t n 0 ≡ attribute_kind → (refused disagree n, table) ≡ walk t (tag false a w st) n table
    unfolding turn kind_of
    plain_attribute a w st e = walk_stop (tag false a w st) (refused disagree n) h (ap (step true deepest (tag false a w st) n) e)

    pub tag_item : (c : Bool) (a w : ℕ) (st left : List ℕ) → is_item (get_or t n 0) ≡ true → (a ≡ 0 → ⊥) → left ≡ set table n a
        → walk t (tag c a w st) (n + 1) left ≡ walk t (tag c a w st) n table
    unfolding turn
    tag_item c a w st left e z l =
        let m = get_or t n 0 in
        let k = kind_of m in
        let i = same_item m ∙ e in
        walk_on (tag c a w st) (tag c a w st) a left h
        (rw (ne_eqb k attribute_kind (item_is_not k attribute_kind refl i), ne_eqb k close_empty_kind (item_is_not k close_empty_kind refl i), ne_eqb k close_start_kind (item_is_not k close_start_kind refl i), ne_eqb a 0 z, i)) l

    pub tag_empty : (c : Bool) (a w : ℕ) (st left : List ℕ) → closes c a ≡ true → get_or t n 0 ≡ close_empty_kind → left ≡ set table n w
        → walk t (inside st) (n + 1) left ≡ walk t (tag c a w st) n table
    unfolding turn kind_of
    tag_empty c a w st left q e l =
        walk_on (tag c a w st) (inside st) w left h (ap (step true deepest (tag c a w st) n) e ∙ ap (λ (x : Bool). asking x w (inside st) n) q) l

    pub tag_full : (c : Bool) (a w : ℕ) (st left : List ℕ) → closes c a ≡ true → get_or t n 0 ≡ close_start_kind → left ≡ set table n w
        → walk t (inside (w ∷ st)) (n + 1) left ≡ walk t (tag c a w st) n table
    unfolding turn kind_of
    tag_full c a w st left q e l =
        walk_on (tag c a w st) (inside (w ∷ st)) w left h (ap (step true deepest (tag c a w st) n) e ∙ ap (λ (x : Bool). asking x w (inside (w ∷ st)) n) q) l

    pub tag_other : (c : Bool) (a w : ℕ) (st : List ℕ) → (get_or t n 0 ≡ attribute_kind → ⊥) → (get_or t n 0 ≡ close_empty_kind → ⊥) → (get_or t n 0 ≡ close_start_kind → ⊥)
        → (is_item (get_or t n 0) ≡ true → a ≡ 0) → (refused no_body_number n, table) ≡ walk t (tag c a w st) n table
    unfolding turn
    tag_other c a w st x y z e =
        let m = get_or t n 0 in
        walk_stop (tag c a w st) (refused no_body_number n) h
        (rw (other attribute_kind (λ q. omega arith) (λ q. omega arith) m x, other close_empty_kind (λ q. omega arith) (λ q. omega arith) m y, other close_start_kind (λ q. omega arith) (λ q. omega arith) m z)
        (last_of (eqb a 0) (is_item (kind_of m)) (stop (refused no_body_number n)) (move a (tag c a w st)) (λ i. eq-eqb a 0 (e (sym (same_item m) ∙ i)))))

    -- where attributes were announced and this is none
    pub tag_lacking : (w : ℕ) (st : List ℕ) (k : ℕ) → (get_or t n 0 ≡ attribute_kind → ⊥) → k ≡ lacking_of (get_or t n 0) → (refused k n, table) ≡ walk t (tag true 0 w st) n table
    unfolding turn
    tag_lacking w st k x e =
        let m = get_or t n 0 in
        walk_stop (tag true 0 w st) (refused k n) h
        (rw (other attribute_kind (λ q. omega arith) (λ q. omega arith) m x, same_test close_empty_kind (λ q. omega arith) (λ q. omega arith) m, same_test close_start_kind (λ q. omega arith) (λ q. omega arith) m)
        (lacks (eqb m close_empty_kind) (eqb m close_start_kind) n ∙ ap (λ (y : ℕ). stop (refused y n)) (sym e)))

    -- in content: the close element token, an open token, a leaf, a PI target, and any other token
    pub inside_close : (w : ℕ) (st left : List ℕ) → get_or t n 0 ≡ close_element_kind → left ≡ set table n w
        → walk t (inside st) (n + 1) left ≡ walk t (inside (w ∷ st)) n table
    unfolding turn kind_of
    inside_close w st left e l = walk_on (inside (w ∷ st)) (inside st) w left h (ap (step true deepest (inside (w ∷ st)) n) e) l

    inside_open : (w : ℕ) (st : List ℕ) → is_open (get_or t n 0) ≡ true → opened t n w (w ∷ st) table ≡ walk t (inside (w ∷ st)) n table
    unfolding turn
    inside_open w st e =
        sym (walk_step (inside (w ∷ st)) h ∙ ap (λ (k : ℕ). on_step t n table (turn true deepest (inside (w ∷ st)) n (announces (get_or t n 0)) k)) (eqb-true (kind_of (get_or t n 0)) open_kind e))

    -- an element's answer goes on from its open token
    pub inside_child : (w : ℕ) (st left : List ℕ) (r r' : Result ℕ Misread) → is_open (get_or t n 0) ≡ true → resume t (inside (w ∷ st)) r left ≡ opened t n w (w ∷ st) table → r ≡ r'
        → resume t (inside (w ∷ st)) r' left ≡ walk t (inside (w ∷ st)) n table
    inside_child w st left r r' k g e = subst (λ (r : Result ℕ Misread). resume t (inside (w ∷ st)) r left ≡ walk t (inside (w ∷ st)) n table) e (g ∙ inside_open w st k)

    pub inside_leaf : (w : ℕ) (st left : List ℕ) → is_leaf (get_or t n 0) ≡ true → left ≡ set table n w
        → walk t (inside (w ∷ st)) (n + 1) left ≡ walk t (inside (w ∷ st)) n table
    unfolding turn
    inside_leaf w st left e l =
        let k = kind_of (get_or t n 0) in
        let i = same_leaf (get_or t n 0) ∙ e in
        walk_on (inside (w ∷ st)) (inside (w ∷ st)) w left h
        (rw (ne_eqb k close_element_kind (leaf_is_not k close_element_kind refl i), ne_eqb k open_kind (leaf_is_not k open_kind refl i), ne_eqb k pi_target_kind (leaf_is_not k pi_target_kind refl i), i)) l

    pub inside_other : (w : ℕ) (st : List ℕ) → (get_or t n 0 ≡ close_element_kind → ⊥) → is_open (get_or t n 0) ≡ false → (get_or t n 0 ≡ pi_target_kind → ⊥)
        → is_leaf (get_or t n 0) ≡ false → (refused no_body_number n, table) ≡ walk t (inside (w ∷ st)) n table
    unfolding turn
    inside_other w st x y z e =
        let m = get_or t n 0 in
        walk_stop (inside (w ∷ st)) (refused no_body_number n) h
        (rw (other close_element_kind (λ q. omega arith) (λ q. omega arith) m x, y, other pi_target_kind (λ q. omega arith) (λ q. omega arith) m z, same_leaf m ∙ e))

    -- a PI target in a state where it may stand, and after it
    pub pair_target : (w : ℕ) (s s' : State) (left : List ℕ) → get_or t n 0 ≡ pi_target_kind → step true deepest s n pi_target_kind ≡ move w (target w s')
        → left ≡ set table n w → walk t (target w s') (n + 1) left ≡ walk t s n table
    pair_target w s s' left e m l = walk_on s (target w s') w left h (ap (step true deepest s n) e ∙ m) l

    pub target_data : (w : ℕ) (left : List ℕ) (s : State) → get_or t n 0 ≡ pi_data_kind → left ≡ set table n w
        → walk t s (n + 1) left ≡ walk t (target w s) n table
    unfolding turn kind_of
    target_data w left s e l = walk_on (target w s) s w left h (ap (step true deepest (target w s) n) e) l

    pub target_other : (w : ℕ) (s : State) → (get_or t n 0 ≡ pi_data_kind → ⊥) → (refused no_body_number n, table) ≡ walk t (target w s) n table
    unfolding turn
    target_other w s x = walk_stop (target w s) (refused no_body_number n) h (rw (other pi_data_kind (λ q. omega arith) (λ q. omega arith) (get_or t n 0) x))

    -- the first token is no target: the root begins there
    pub begin_root : (get_or t n 0 ≡ pi_target_kind → ⊥) → walk t root n table ≡ walk t begin n table
    unfolding turn
    begin_root x =
        let e : step true deepest begin n (get_or t n 0) ≡ step true deepest root n (get_or t n 0) = rw (other pi_target_kind (λ q. omega arith) (λ q. omega arith) (get_or t n 0) x) in
        walk_step root h ∙ sym (walk_step begin h ∙ ap (on_step t n table) e)

    -- the root's first token
    pub root_open : is_open (get_or t n 0) ≡ true → opened t n 0 [] table ≡ walk t root n table
    unfolding turn
    root_open e = sym (walk_step root h ∙ ap (λ (k : ℕ). on_step t n table (turn true deepest root n (announces (get_or t n 0)) k)) (eqb-true (kind_of (get_or t n 0)) open_kind e))

    -- the root's answer, taken apart
    pub root_child : (w : ℕ) (left : List ℕ) (r r' : Result ℕ Misread) → is_open (get_or t n 0) ≡ true → w ≡ 0 → resume t (inside []) r left ≡ opened t n w [] table → r ≡ r'
        → resume t (inside []) r' left ≡ walk t root n table
    root_child w left r r' k z g e =
        subst (λ (r : Result ℕ Misread). resume t (inside []) r left ≡ walk t root n table) e
        (g ∙ ap (λ (x : ℕ). opened t n x [] table) z ∙ root_open k)

    pub root_instance : (left : List ℕ) → get_or t n 0 ≡ instance_kind → left ≡ set table n 0 → walk t (inside []) (n + 1) left ≡ walk t root n table
    unfolding turn kind_of
    root_instance left e l = walk_on root (inside []) 0 left h (ap (step true deepest root n) e) l

    pub root_other : is_open (get_or t n 0) ≡ false → (get_or t n 0 ≡ instance_kind → ⊥) → (refused no_body_number n, table) ≡ walk t root n table
    unfolding turn
    root_other x y = walk_stop root (refused no_body_number n) h (rw (x, other instance_kind (λ q. omega arith) (λ q. omega arith) (get_or t n 0) y))

    -- after the root: what is no target
    pub over_other : (get_or t n 0 ≡ pi_target_kind → ⊥) → (refused no_body_number n, table) ≡ walk t (inside []) n table
    unfolding turn
    over_other x = walk_stop (inside []) (refused no_body_number n) h (rw (other pi_target_kind (λ q. omega arith) (λ q. omega arith) (get_or t n 0) x))

  -- an open token, below the elements of the stack: one level more, or too deep
  opened_on : (w : ℕ) (st left : List ℕ) → length st < deepest → left ≡ set table n w
      → walk t (tag (announces (get_or t n 0)) 0 (n + 1) st) (n + 1) left ≡ opened t n w st table
  unfolding opening
  opened_on w st left h l =
      let c = announces (get_or t n 0) in
      ap (λ (m : ℕ). walk t (tag c 0 m st) m left) (add-one n) ∙ ap (walk t (tag c 0 (suc n) st) (suc n)) l
      ∙ rw (lt-ltb (length st) deepest h)

  -- an open tag's answer goes on from the open token
  pub opened_tag : (w : ℕ) (st mid left : List ℕ) (r r' : Result Tag Misread) → length st < deepest → mid ≡ set table n w
      → tag_resume t (n + 1) st r left ≡ walk t (tag (announces (get_or t n 0)) 0 (n + 1) st) (n + 1) mid → r ≡ r' → tag_resume t (n + 1) st r' left ≡ opened t n w st table
  opened_tag w st mid left r r' h l g e = subst (λ (r : Result Tag Misread). tag_resume t (n + 1) st r left ≡ opened t n w st table) e (g ∙ opened_on w st mid h l)

  pub opened_deep : (w : ℕ) (st : List ℕ) → deepest ≤ length st → (refused too_deep_number n, table) ≡ opened t n w st table
  unfolding opening
  opened_deep w st h = rw (le-ltb (length st) deepest h)

  -- after the root, and after a closing pair
  pub over_ended : length t ≤ n → (accepted, table) ≡ walk t (inside []) n table
  unfolding ended
  over_ended h = walk_ended (inside []) h

  pub done_more : n < length t → (refused no_body_number n, table) ≡ walk t done n table
  unfolding turn
  done_more h = walk_stop done (refused no_body_number n) h refl

  pub done_ended : length t ≤ n → (accepted, table) ≡ walk t done n table
  unfolding ended
  done_ended h = walk_ended done h

-- a PI target and its data
pub instruction_read : (t : List ℕ) (n w : ℕ) (table mid left : List ℕ) (s s' : State) → n + 1 < length t → get_or t n 0 ≡ pi_target_kind → get_or t (n + 1) 0 ≡ pi_data_kind
    → step true deepest s n pi_target_kind ≡ move w (target w s') → mid ≡ set table n w → left ≡ set mid (n + 1) w → walk t s' (n + 2) left ≡ walk t s n table
instruction_read t n w table mid left s s' h e d c m l =
    let two : n + 2 ≡ n + 1 + 1 = omega arith in
    ap (λ (i : ℕ). walk t s' i left) two
    ∙ target_data t (n + 1) mid h w left s' d l ∙ pair_target t n table (omega arith) w s s' mid e c m

-- where a target may stand: before the root, in content, and after the root
pub leads : (n : ℕ) → step true deepest begin n pi_target_kind ≡ move 0 (target 0 root)
unfolding turn kind_of
leads n = refl

pub stands_inside : (n w : ℕ) (st : List ℕ) → step true deepest (inside (w ∷ st)) n pi_target_kind ≡ move w (target w (inside (w ∷ st)))
unfolding turn kind_of
stands_inside n w st = refl

pub follows : (n : ℕ) → step true deepest (inside []) n pi_target_kind ≡ move 0 (target 0 done)
unfolding turn kind_of
follows n = refl

-- a leaf's answer, taken apart
pub resumed : (t left : List ℕ) (x : Out × List ℕ) (s : State) (r r' : Result ℕ Misread) → resume t s r left ≡ x → r ≡ r' → resume t s r' left ≡ x
resumed t left x s r r' h e = subst (λ (r : Result ℕ Misread). resume t s r left ≡ x) e h

-- an open tag's answer, taken apart
pub tag_resumed : (t left : List ℕ) (x : Out × List ℕ) (me : ℕ) (st : List ℕ) (r r' : Result Tag Misread) → tag_resume t me st r left ≡ x → r ≡ r' → tag_resume t me st r' left ≡ x
tag_resumed t left x me st r r' h e = subst (λ (r : Result Tag Misread). tag_resume t me st r left ≡ x) e h

-- what stands there is an open token, and is looked at: it is told so
pub open_there : {A : Type 0} (t : List ℕ) (n at : ℕ) → n ≡ at → is_open (get_or t at 0) ≡ true → is_open (get_or t n 0) ≡ false → A
open_there t n at e h f = not_told (is_open (get_or t n 0)) f (ap (λ (i : ℕ). is_open (get_or t i 0)) e ∙ h)

-- the walk from the root's first token, where that is looked at
pub from_first : (t : List ℕ) (n at : ℕ) (table table₀ : List ℕ) → n ≡ at → table ≡ table₀ → walk t root n table ≡ walk t root at table₀
from_first t n at table table₀ e l = ap (λ (i : ℕ). walk t root i table) e ∙ ap (walk t root at) l

module _ (t : List ℕ) (at : ℕ) where
  pub further_is : (r r' : Result ℕ Misread) → further t at r → r ≡ r' → further t at r'
  further_is r r' h e = subst (further t at) e h

  pub tag_further_is : (r r' : Result Tag Misread) → TagFurther t at r → r ≡ r' → TagFurther t at r'
  tag_further_is r r' h e = subst (TagFurther t at) e h

  -- what is further than a later token is further than an earlier one
  pub later : (i : ℕ) (r : Result ℕ Misread) → at ≤ i → further t i r → further t at r
  later i (Ok j) l h = (omega (arith, h.0), h.1)
  later i (Err r) l h = h

  pub tag_later : (i : ℕ) (r : Result Tag Misread) → at ≤ i → TagFurther t i r → TagFurther t at r
  tag_later i (Ok (T.Empty j)) l h = (omega (arith, h.0), h.1)
  tag_later i (Ok (T.Full j)) l h = (omega (arith, h.0), h.1)
  tag_later i (Err r) l h = h
