-- In a body an owner stands before what it owns. Assumes nothing.
use mathlib.Core.Path.{◌≡◌, subst}
use mathlib.Core.List.{List}
use Prim.Native.Nat.{ℕ, suc, ◌≤◌, ◌<◌}
use native.Mathlib.Omega.{arith}
use native.Mathlib.Decide.{dec_lt}
use lib.ListN.{length, get_or}
use Rattle.body.specs.Grammar as g
use Rattle.body.specs.Grammar.{Rule, Stands, Items, Attributes, attribute, Tag, Element, empty, full, Content, cdata, instruction, child, Root, an_instance, an_element, AtMostOnePair, no_pair, a_pair, Body, parts, Reading}
use Rattle.body.proofs.Rules.{items_on, attributes_on}

first_or_after : {A : Type 0} (i n : ℕ) → i ≤ n → (i ≡ n → A) → (suc i ≤ n → A) → A
first_or_after i n l f h = elim (dec_lt i n) [ yes q ↦ h (omega arith) | no q ↦ f (omega arith) ]

before_or_not : {A : Type 0} (n m : ℕ) → (n < m → A) → (m ≤ n → A) → A
before_or_not n m f h = elim (dec_lt n m) [ yes q ↦ f q | no q ↦ h (omega arith) ]

module _ (t o : List ℕ) where
  -- a token's word is its owner's number plus 1, or 0: not above its own number
  abbrev pub After : ℕ → Type 0
  After n = get_or o n 0 ≤ n

  one_after : {i k w n : ℕ} → Stands t o i k w → w ≤ i → i ≡ n → After n
  one_after {i = i} s h e = subst After e (omega (arith, s.word))

  items_after : {w i j : ℕ} → Items t o w i j → w ≤ i → (n : ℕ) → i ≤ n → n < j → After n
  items_after g.Items.no_more h n a b = absurd (omega arith)
  items_after {i = i} (g.Items.item x k c) h n a b = first_or_after i n a (λ q. one_after k h q) (λ q. items_after c (omega arith) n q b)

  attributes_after : {w i j : ℕ} → Attributes t o w i j → w ≤ i → (n : ℕ) → i ≤ n → n < j → After n
  attributes_after g.Attributes.no_more h n a b = absurd (omega arith)
  attributes_after {i = i} (attribute {m = m} k items c) h n a b =
      let l = items_on t o items in
      first_or_after i n a (λ q. one_after k h q)
      (λ q. before_or_not n m (λ r. items_after items (omega arith) n q r) (λ r. attributes_after c (omega (arith, l)) n r b))

  pair_after : {i j : ℕ} → AtMostOnePair t o i j → (n : ℕ) → i ≤ n → n < j → After n
  pair_after no_pair n a b = absurd (omega arith)
  pair_after {i = i} (a_pair k d) n a b =
      first_or_after i n a (λ q. one_after k (omega arith) q) (λ q. one_after d (omega arith) (omega arith))

  module _ (rule : Rule) (limit : ℕ) where
    tag_after : {w i j : ℕ} → Tag t o rule w i j → w ≤ i → (n : ℕ) → i ≤ n → n < j → After n
    tag_after {i = i} x h n a b =
        first_or_after i n a (λ q. one_after x.opening h q) (λ q. attributes_after x.attributes (omega arith) n q b)

    mutual
      element_on : {level w i j : ℕ} → Element t o rule limit level w i j → i < j
      element_on {i = i} {j = j} (empty l k close) =
          let a = attributes_on t o k.attributes in
          omega arith
      element_on {i = i} {j = j} (full l k start c close) =
          let a = attributes_on t o k.attributes in
          let b = content_on c in
          omega arith

      content_on : {level w i j : ℕ} → Content t o rule limit level w i j → i ≤ j
      content_on g.Content.no_more = omega arith
      content_on {i = i} {j = j} (g.Content.item x k c) =
          let a = content_on c in
          omega arith
      content_on {i = i} {j = j} (cdata k c) =
          let a = content_on c in
          omega arith
      content_on {i = i} {j = j} (instruction k d c) =
          let a = content_on c in
          omega arith
      content_on {i = i} {j = j} (child x c) =
          let a = element_on x in
          let b = content_on c in
          omega arith

    mutual
      element_after : {level w i j : ℕ} → Element t o rule limit level w i j → w ≤ i → (n : ℕ) → i ≤ n → n < j → After n
      element_after {i = i} (empty {a = a} l k close) h n b e =
          let x = attributes_on t o k.attributes in
          before_or_not n a (λ r. tag_after k h n b r) (λ r. one_after close (omega (arith, x)) (omega arith))
      element_after {i = i} (full {a = a} {c = c} l k start y close) h n b e =
          let x = attributes_on t o k.attributes in
          let z = content_on y in
          before_or_not n a (λ r. tag_after k h n b r)
          (λ r. first_or_after a n r (λ q. one_after start (omega (arith, x)) q)
          (λ q. before_or_not n c (λ v. content_after y (omega (arith, x)) n q v) (λ v. one_after close (omega (arith, x, z)) (omega arith))))

      content_after : {level w i j : ℕ} → Content t o rule limit level w i j → w ≤ i → (n : ℕ) → i ≤ n → n < j → After n
      content_after g.Content.no_more h n a b = absurd (omega arith)
      content_after {i = i} (g.Content.item x k c) h n a b = first_or_after i n a (λ q. one_after k h q) (λ q. content_after c (omega arith) n q b)
      content_after {i = i} (cdata k c) h n a b = first_or_after i n a (λ q. one_after k h q) (λ q. content_after c (omega arith) n q b)
      content_after {i = i} (instruction k d c) h n a b =
          first_or_after i n a (λ q. one_after k h q)
          (λ q. first_or_after (suc i) n q (λ r. one_after d (omega arith) r) (λ r. content_after c (omega arith) n r b))
      content_after {i = i} (child {m = m} x c) h n a b =
          let l = element_on x in
          before_or_not n m (λ r. element_after x h n a r) (λ r. content_after c (omega (arith, l)) n r b)

    root_after : {i j : ℕ} → Root t o rule limit i j → (n : ℕ) → i ≤ n → n < j → After n
    root_after (an_instance k) n a b = one_after k (omega arith) (omega arith)
    root_after (an_element x) n a b = element_after x (omega arith) n a b

    body_after : {i j : ℕ} → Body t o rule limit i j → (n : ℕ) → i ≤ n → n < j → After n
    body_after (parts {a = a} {b = b} p r q) n l h =
        before_or_not n a (λ z. pair_after p n l z) (λ z. before_or_not n b (λ y. root_after r n z y) (λ y. pair_after q n y h))

    pub owner_before : Reading rule limit t o → (n : ℕ) → n < length t → After n
    owner_before r n h = body_after r.body n (omega arith) h
