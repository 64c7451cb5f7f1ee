-- A body of the grammar is a run of moves from the first token to the end, and a run is a body: by the wide rule and by the narrow one.
-- Assumes nothing.
use mathlib.Core.Path.{◌≡◌, refl, sym, ap, subst, ◌∙◌}
use mathlib.Core.Bool.{Bool, true, false}
use mathlib.Core.List.{List, [], ◌∷◌}
use Prim.Native.Nat.{ℕ, suc, ◌≤◌, ◌<◌}
use native.Mathlib.Omega.{arith}
use borrow.Author.Tests.{lt-ltb, le-ltb}
use lib.Dec.{ltb}
use lib.ListN.{length, get_or}
use Rattle.body.specs.Grammar as g
use Rattle.body.specs.Grammar.{announces, kind_of, OneOfFour, Stands, Items, Attributes, attribute, Tag, Element, empty, full, Content, cdata, instruction, child, Root, an_instance, an_element, AtMostOnePair, no_pair, a_pair, Body, parts}
use Rattle.body.specs.Reader.{State, begin, root, tag, inside, done, target, AgreesBy, rule_of, if_asked, closes}
use Rattle.body.proofs.Moves.{Start, at_first, after_pair, Move, m_leading, m_instance, m_root, m_attribute, m_empty, m_start, m_tag_item, m_close, m_child, m_target, m_cdata, m_item, m_closing, m_data, if_some}
use Rattle.body.proofs.Rules.{items_on, attributes_on}

-- the states in which a body is over
pub data Over : State → Type 0 where
  after_root : Over (inside [])
  after_closing : Over done

-- what a tag's rule says of an attribute in it, and of its close token where there is none; and back
some_ruled : (r c : Bool) (i j : ℕ) → AgreesBy r c (ltb i j) → i < j → if_asked r c ≡ true
some_ruled true c i j e h = e ∙ lt-ltb i j h
some_ruled false c i j e h = refl

none_ruled : (r c : Bool) (i j : ℕ) → AgreesBy r c (ltb i j) → i ≡ j → if_asked r (closes c 0) ≡ true
none_ruled true c i j e h = ap (λ (x : Bool). closes x 0) (e ∙ le-ltb i j (omega arith))
none_ruled false c i j e h = refl

rules_some : (r c : Bool) (i j : ℕ) → if_asked r c ≡ true → i < j → AgreesBy r c (ltb i j)
rules_some true c i j e h = e ∙ sym (lt-ltb i j h)
rules_some false c i j e h = tt {0}

not_closed : (c : Bool) → closes c 0 ≡ true → c ≡ false
not_closed true e = sym e
not_closed false e = refl

rules_none : (r c : Bool) (a i : ℕ) → if_asked r (closes c a) ≡ true → a ≡ 0 → AgreesBy r c (ltb i i)
rules_none true c a i e h = not_closed c (sym (ap (closes c) h) ∙ e) ∙ sym (le-ltb i i (omega arith))
rules_none false c a i e h = tt {0}

-- token n may stand in the state s
abbrev pub MoveAt : Bool → List ℕ → ℕ → ℕ → State → ℕ → State → Type 0
MoveAt r t limit n s w s' = Move r limit n (announces (get_or t n 0)) (kind_of (get_or t n 0)) s w s'

module _ (r : Bool) (t o : List ℕ) (limit : ℕ) where
  -- from the state s, token n and all after it may stand, with the table's words, and the body is over where the tokens end
  pub data Run : State → ℕ → Type 0 where
    over : {s : State} {n : ℕ} → Over s → n ≡ length t → Run s n
    next : {s s' : State} {n w : ℕ} → MoveAt r t limit n s w s' → get_or o n 0 ≡ w → Run s' (suc n) → Run s n

  item_here : {i k w : ℕ} → OneOfFour k → Stands t o i k w → OneOfFour (kind_of (get_or t i 0))
  item_here i k = subst OneOfFour (sym k.kind) i

  items_run : {a i j : ℕ} → Items t o a i j → (c : Bool) (w : ℕ) (st : List ℕ) → (a ≡ 0 → ⊥) → Run (tag c a w st) j → Run (tag c a w st) i
  items_run g.Items.no_more c w st h q = q
  items_run (g.Items.item i k y) c w st h q = next (m_tag_item (item_here i k) h) k.word (items_run y c w st h q)

  -- attributes up to j, where the last one before them is a: what the tag's rule asks for, and what follows them
  attributes_run : {w i j : ℕ} → Attributes t o w i j → (c : Bool) (st : List ℕ) → (i < j → if_asked r c ≡ true)
      → ((a : ℕ) → if_asked r (closes c a) ≡ true → Run (tag c a w st) j) → (a : ℕ) → (i ≡ j → if_asked r (closes c a) ≡ true) → Run (tag c a w st) i
  attributes_run g.Attributes.no_more c st h f a e = f a (e refl)
  attributes_run (attribute {i = i} {m = m} {j = j} k items y) c st h f a e =
      let p = items_on t o items in
      let q = attributes_on t o y in
      next (m_attribute k.kind (h (omega (arith, p, q)))) k.word
      (items_run items c _ st (λ z. omega arith)
      (attributes_run y c st (λ z. h (omega (arith, p, q))) f (suc i) (λ z. if_some r c (suc i) (omega arith))))

  tag_run : {w i j : ℕ} → Tag t o (rule_of r) w i j → (st : List ℕ)
      → ((a : ℕ) → if_asked r (closes (announces (get_or t i 0)) a) ≡ true → Run (tag (announces (get_or t i 0)) a (suc i) st) j)
      → Run (tag (announces (get_or t i 0)) 0 (suc i) st) (suc i)
  tag_run {i = i} {j = j} k st f =
      let c = announces (get_or t i 0) in
      attributes_run k.attributes c st (some_ruled r c (suc i) j k.ruled) f 0 (none_ruled r c (suc i) j k.ruled)

  -- an open token may stand here, below the elements of st
  abbrev Opens : State → ℕ → ℕ → List ℕ → Type 0
  Opens s i w st = kind_of (get_or t i 0) ≡ 2 → length st < limit → MoveAt r t limit i s w (tag (announces (get_or t i 0)) 0 (suc i) st)

  mutual
    element_run : {level w i j : ℕ} → Element t o (rule_of r) limit level w i j → (s : State) (st : List ℕ) → suc (length st) ≡ level → Opens s i w st
        → Run (inside st) j → Run s i
    element_run (empty l k close) s st e f q =
        next (f k.opening.kind (omega arith)) k.opening.word
        (tag_run k st (λ a h. next (m_empty close.kind h) close.word q))
    element_run (full l k start y close) s st e f q =
        next (f k.opening.kind (omega arith)) k.opening.word
        (tag_run k st
        (λ a h. next (m_start start.kind h) start.word (content_run y st e (next (m_close close.kind) close.word q))))

    content_run : {level w i j : ℕ} → Content t o (rule_of r) limit level w i j → (st : List ℕ) → suc (length st) ≡ level → Run (inside (w ∷ st)) j
        → Run (inside (w ∷ st)) i
    content_run g.Content.no_more st e q = q
    content_run (g.Content.item i k y) st e q = next (m_item (item_here i k)) k.word (content_run y st e q)
    content_run (cdata k y) st e q = next (m_cdata k.kind) k.word (content_run y st e q)
    content_run (instruction k d y) st e q =
        next (m_target k.kind) k.word (next (m_data d.kind) d.word (content_run y st e q))
    content_run (child {w = w} x y) st e q =
        element_run x (inside (w ∷ st)) (w ∷ st) (ap suc e) (λ k h. m_child k h) (content_run y st e q)

  closing_run : {i j : ℕ} → AtMostOnePair t o i j → j ≡ length t → Run (inside []) i
  closing_run no_pair e = over after_root e
  closing_run (a_pair k d) e = next (m_closing k.kind) k.word (next (m_data d.kind) d.word (over after_closing e))

  root_run : {i j : ℕ} → Root t o (rule_of r) limit i j → (s : State) → Start s → Run (inside []) j → Run s i
  root_run (an_instance k) s h q = next (m_instance h k.kind) k.word q
  root_run (an_element x) s h q = element_run x s [] refl (λ k l. m_root h k l) q

  leading_run : {i j : ℕ} → AtMostOnePair t o i j → ((s : State) → Start s → Run s j) → Run begin i
  leading_run no_pair f = f begin at_first
  leading_run (a_pair k d) f = next (m_leading k.kind) k.word (next (m_data d.kind) d.word (f root after_pair))

  pub body_run : {i j : ℕ} → Body t o (rule_of r) limit i j → j ≡ length t → Run begin i
  body_run (parts l x c) e = leading_run l (λ s h. root_run x s h (closing_run c e))

  -- what is left of a body in a state: the rest of each element that is open, and then the end
  data Rest : State → ℕ → Type 0 where
    at_begin : {i a b j : ℕ} → AtMostOnePair t o i a → Root t o (rule_of r) limit a b → AtMostOnePair t o b j → j ≡ length t → Rest begin i
    at_root : {i b j : ℕ} → Root t o (rule_of r) limit i b → AtMostOnePair t o b j → j ≡ length t → Rest root i
    at_end_lem : {i j : ℕ} → AtMostOnePair t o i j → j ≡ length t → Rest (inside []) i
    at_done : {n : ℕ} → n ≡ length t → Rest done n
    in_content : {w i j : ℕ} {st : List ℕ} → Content t o (rule_of r) limit (suc (length st)) w i j → Stands t o j 5 w → Rest (inside st) (suc j)
        → Rest (inside (w ∷ st)) i
    in_target : {w i : ℕ} {s : State} → Stands t o i 10 w → Rest s (suc i) → Rest (target w s) i
    in_empty : {c : Bool} {a w i m j : ℕ} {st : List ℕ} → Items t o a i m → (a ≡ 0 → i ≡ m) → Attributes t o w m j → (a ≡ 0 → AgreesBy r c (ltb m j))
        → Stands t o j 4 w → Rest (inside st) (suc j) → Rest (tag c a w st) i
    in_full : {c : Bool} {a w i m j : ℕ} {st : List ℕ} → Items t o a i m → (a ≡ 0 → i ≡ m) → Attributes t o w m j → (a ≡ 0 → AgreesBy r c (ltb m j))
        → Stands t o j 3 w → Rest (inside (w ∷ st)) (suc j) → Rest (tag c a w st) i

  whole_tag : {w i m j : ℕ} → Stands t o i 2 w → (◌≡◌ {A = ℕ} 0 0 → suc i ≡ m) → Attributes t o (suc i) m j
      → (◌≡◌ {A = ℕ} 0 0 → AgreesBy r (announces (get_or t i 0)) (ltb m j)) → Tag t o (rule_of r) w i j
  whole_tag {i = i} {j = j} k z c u =
      record {
        opening = k;
        attributes = subst (λ (x : ℕ). Attributes t o (suc i) x j) (sym (z refl)) c;
        ruled = subst (λ (x : ℕ). AgreesBy r (announces (get_or t i 0)) (ltb x j)) (sym (z refl)) (u refl);
      }

  -- a root, and what is left after it
  start_rest : {n m j : ℕ} {s : State} → Start s → Root t o (rule_of r) limit n m → AtMostOnePair t o m j → j ≡ length t → Rest s n
  start_rest at_first x c e = at_begin no_pair x c e
  start_rest after_pair x c e = at_root x c e

  root_rest : {n : ℕ} {s : State} → Start s → Stands t o n 2 0 → 0 < limit → Rest (tag (announces (get_or t n 0)) 0 (suc n) []) (suc n) → Rest s n
  root_rest b k h (in_empty items z c u close (at_end_lem p e)) =
      start_rest b (an_element (empty {level = 1} (omega arith) (whole_tag k z c u) close)) p e
  root_rest b k h (in_full items z c u start (in_content x close (at_end_lem p e))) =
      start_rest b (an_element (full {level = 1} (omega arith) (whole_tag k z c u) start x close)) p e

  instance_rest : {n : ℕ} {s : State} → Start s → Stands t o n 1 0 → Rest (inside []) (suc n) → Rest s n
  instance_rest b k (at_end_lem p e) = start_rest b (an_instance k) p e

  -- a pair before the root, and one after it
  leading_rest : {n : ℕ} → Stands t o n 9 0 → Rest (target 0 root) (suc n) → Rest begin n
  leading_rest k (in_target d (at_root x c e)) = at_begin (a_pair k d) x c e

  closing_rest : {n : ℕ} → Stands t o n 9 0 → Rest (target 0 done) (suc n) → Rest (inside []) n
  closing_rest k (in_target d (at_done e)) = at_end_lem (a_pair k d) e

  -- there is an attribute: from n on to past it
  one_attribute : (c : Bool) {v w n m j : ℕ} → if_asked r c ≡ true → Items t o v (suc n) m → Attributes t o w m j → AgreesBy r c (ltb n j)
  one_attribute c {n = n} {j = j} h items y =
      let p = items_on t o items in
      let q = attributes_on t o y in
      rules_some r c n j h (omega (arith, p, q))

  attribute_rest : {c : Bool} {a w n : ℕ} {st : List ℕ} → Stands t o n 7 w → if_asked r c ≡ true → Rest (tag c (suc n) w st) (suc n) → Rest (tag c a w st) n
  attribute_rest {c} k h (in_empty items z y u close q) =
      in_empty g.Items.no_more (λ e. refl) (attribute k items y) (λ e. one_attribute c h items y) close q
  attribute_rest {c} k h (in_full items z y u start q) =
      in_full g.Items.no_more (λ e. refl) (attribute k items y) (λ e. one_attribute c h items y) start q

  tag_item_rest : {c : Bool} {a w n k : ℕ} {st : List ℕ} → OneOfFour k → (a ≡ 0 → ⊥) → Stands t o n k a → Rest (tag c a w st) (suc n) → Rest (tag c a w st) n
  tag_item_rest i h k (in_empty items z y u close q) = in_empty (g.Items.item i k items) (λ e. absurd (h e)) y u close q
  tag_item_rest i h k (in_full items z y u start q) = in_full (g.Items.item i k items) (λ e. absurd (h e)) y u start q

  child_rest : {w n : ℕ} {st : List ℕ} → Stands t o n 2 w → suc (length st) < limit → Rest (tag (announces (get_or t n 0)) 0 (suc n) (w ∷ st)) (suc n)
      → Rest (inside (w ∷ st)) n
  child_rest {st = st} k h (in_empty items z c u close (in_content y end q)) =
      in_content (child (empty {level = suc (suc (length st))} (omega arith) (whole_tag k z c u) close) y) end q
  child_rest {st = st} k h (in_full items z c u start (in_content x close (in_content y end q))) =
      in_content (child (full {level = suc (suc (length st))} (omega arith) (whole_tag k z c u) start x close) y) end q

  target_rest : {w n : ℕ} {st : List ℕ} → Stands t o n 9 w → Rest (target w (inside (w ∷ st))) (suc n) → Rest (inside (w ∷ st)) n
  target_rest k (in_target d (in_content c close q)) = in_content (instruction k d c) close q

  cdata_rest : {w n : ℕ} {st : List ℕ} → Stands t o n 11 w → Rest (inside (w ∷ st)) (suc n) → Rest (inside (w ∷ st)) n
  cdata_rest k (in_content c close q) = in_content (cdata k c) close q

  item_rest : {w n k : ℕ} {st : List ℕ} → OneOfFour k → Stands t o n k w → Rest (inside (w ∷ st)) (suc n) → Rest (inside (w ∷ st)) n
  item_rest i k (in_content c close q) = in_content (g.Content.item i k c) close q

  -- a token, and what is left after it
  on_move : {s s' : State} {n w : ℕ} → MoveAt r t limit n s w s' → get_or o n 0 ≡ w → Rest s' (suc n) → Rest s n
  on_move (m_leading e) v q = leading_rest (record { kind = e; word = v }) q
  on_move (m_instance b e) v q = instance_rest b (record { kind = e; word = v }) q
  on_move (m_root b e h) v q = root_rest b (record { kind = e; word = v }) h q
  on_move (m_attribute e h) v q = attribute_rest (record { kind = e; word = v }) h q
  on_move {n = n} (m_empty {c} {a} e h) v q =
      in_empty g.Items.no_more (λ x. refl) g.Attributes.no_more (rules_none r c a n h) (record { kind = e; word = v }) q
  on_move {n = n} (m_start {c} {a} e h) v q =
      in_full g.Items.no_more (λ x. refl) g.Attributes.no_more (rules_none r c a n h) (record { kind = e; word = v }) q
  on_move (m_tag_item i h) v q = tag_item_rest i h (record { kind = refl; word = v }) q
  on_move (m_close e) v q = in_content g.Content.no_more (record { kind = e; word = v }) q
  on_move (m_child e h) v q = child_rest (record { kind = e; word = v }) h q
  on_move (m_target e) v q = target_rest (record { kind = e; word = v }) q
  on_move (m_cdata e) v q = cdata_rest (record { kind = e; word = v }) q
  on_move (m_item i) v q = item_rest i (record { kind = refl; word = v }) q
  on_move (m_closing e) v q = closing_rest (record { kind = e; word = v }) q
  on_move (m_data e) v q = in_target (record { kind = e; word = v }) q

  rest : {s : State} {n : ℕ} → Run s n → Rest s n
  rest (over after_root e) = at_end_lem no_pair e
  rest (over after_closing e) = at_done e
  rest (next m v q) = on_move m v (rest q)

  begun : {i : ℕ} → Rest begin i → Body t o (rule_of r) limit i (length t)
  begun {i} (at_begin l x c e) = subst (λ (j : ℕ). Body t o (rule_of r) limit i j) e (parts l x c)

  pub run_body : {i : ℕ} → Run begin i → Body t o (rule_of r) limit i (length t)
  run_body q = begun (rest q)
