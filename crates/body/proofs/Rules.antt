-- What a rule adds to the grammar: a body by a rule is a body by the wide rule in which each open token keeps the rule. Assumes nothing.
use mathlib.Core.Path.{◌≡◌, refl, sym, ap, subst, ◌∙◌}
use mathlib.Core.Bool.{Bool}
use mathlib.Core.List.{List}
use Prim.Native.Nat.{ℕ, suc, ◌≤◌, ◌<◌}
use native.Mathlib.Omega.{arith}
use native.Mathlib.Decide.{dec_lt}
use borrow.Author.Tests.{eq-eqb, ne_eqb, lt-ltb, le-ltb}
use lib.Dec.{eqb, ltb}
use lib.ListN.{length, get_or, get_or-eq_default}
use Rattle.tokens.specs.Token.{open_kind, attribute_kind}
use Rattle.body.specs.Grammar as g
use Rattle.body.specs.Grammar.{kind_of, Rule, wide, OneOfFour, a_value, a_substitution, a_char_ref, an_entity_ref, Stands, Items, Attributes, attribute, Tag, Element, empty, full, Content, cdata, instruction, child, Root, an_instance, an_element, AtMostOnePair, no_pair, a_pair, Body, parts, Reading}

-- no token has the mark 0
pub zero_kind : kind_of 0 ≡ 0
unfolding kind_of
zero_kind = refl

no_open : {k : ℕ} → OneOfFour k → k ≡ open_kind → ⊥
no_open a_value e = omega arith
no_open a_substitution e = omega arith
no_open a_char_ref e = omega arith
no_open an_entity_ref e = omega arith

-- a token is the first of a span or after it; before a place, or not
first_or_after : {A : Type 0} (i n : ℕ) → i ≤ n → (i ≡ n → A) → (suc i ≤ n → A) → A
first_or_after i n l f h = elim (dec_lt i n) [ yes q ↦ h (omega arith) | no q ↦ f (omega arith) ]

before_or_not : {A : Type 0} (n m : ℕ) → (n < m → A) → (m ≤ n → A) → A
before_or_not n m f h = elim (dec_lt n m) [ yes q ↦ f q | no q ↦ h (omega arith) ]

module _ (t o : List ℕ) where
  -- of another kind than an open token
  not_open : {i k w n : ℕ} → Stands t o i k w → (k ≡ open_kind → ⊥) → i ≡ n → kind_of (get_or t n 0) ≡ open_kind → ⊥
  not_open s h e z = h (sym s.kind ∙ ap (λ (m : ℕ). kind_of (get_or t m 0)) e ∙ z)

  items_not_open : {w i j : ℕ} → Items t o w i j → (n : ℕ) → i ≤ n → n < j → kind_of (get_or t n 0) ≡ open_kind → ⊥
  items_not_open g.Items.no_more n l h e = omega arith
  items_not_open {i = i} (g.Items.item x k c) n l h e =
      first_or_after i n l (λ q. not_open k (no_open x) q e) (λ q. items_not_open c n q h e)

  attributes_not_open : {w i j : ℕ} → Attributes t o w i j → (n : ℕ) → i ≤ n → n < j → kind_of (get_or t n 0) ≡ open_kind → ⊥
  attributes_not_open g.Attributes.no_more n l h e = omega arith
  attributes_not_open {i = i} (attribute {m = m} k items c) n l h e =
      first_or_after i n l (λ q. not_open k (λ z. omega arith) q e)
      (λ q. before_or_not n m (λ b. items_not_open items n q b e) (λ b. attributes_not_open c n b h e))

  pair_not_open : {i j : ℕ} → AtMostOnePair t o i j → (n : ℕ) → i ≤ n → n < j → kind_of (get_or t n 0) ≡ open_kind → ⊥
  pair_not_open no_pair n l h e = omega arith
  pair_not_open {i = i} (a_pair k d) n l h e =
      first_or_after i n l (λ q. not_open k (λ z. omega arith) q e) (λ q. not_open d (λ z. omega arith) (omega arith) e)

  -- spans go forward
  pub items_on : {w i j : ℕ} → Items t o w i j → i ≤ j
  items_on g.Items.no_more = omega arith
  items_on {i = i} {j = j} (g.Items.item x k c) =
      let h = items_on c in
      omega arith

  pub attributes_on : {w i j : ℕ} → Attributes t o w i j → i ≤ j
  attributes_on g.Attributes.no_more = omega arith
  attributes_on {i = i} {j = j} (attribute k items c) =
      let a = items_on items in
      let b = attributes_on c in
      omega arith

  -- there are attributes exactly where the token after the open token is one: what comes after them is none
  some_attributes : {w v i j k : ℕ} → Attributes t o w i j → Stands t o j k v → (k ≡ attribute_kind → ⊥) → ltb i j ≡ eqb (kind_of (get_or t i 0)) attribute_kind
  some_attributes {i = i} {k = k} g.Attributes.no_more s h =
      le-ltb i i (omega arith) ∙ sym (ne_eqb (kind_of (get_or t i 0)) attribute_kind (λ e. h (sym s.kind ∙ e)))
  some_attributes {i = i} {j = j} (attribute a items c) s h =
      let x = items_on items in
      let y = attributes_on c in
      lt-ltb i j (omega arith) ∙ sym (eq-eqb (kind_of (get_or t i 0)) attribute_kind a.kind)

  module _ (rule : Rule) (limit : ℕ) where
    -- an open token keeps the rule, by the token after it
    abbrev pub Keeps : ℕ → Type 0
    Keeps n = kind_of (get_or t n 0) ≡ open_kind → rule (get_or t n 0) (eqb (kind_of (get_or t (suc n) 0)) attribute_kind)

    -- any rule's body is one by the wide rule
    wide_tag : {w i j : ℕ} → Tag t o rule w i j → Tag t o wide w i j
    wide_tag k = record { opening = k.opening; attributes = k.attributes; ruled = tt {0} }

    mutual
      element_wide : {level w i j : ℕ} → Element t o rule limit level w i j → Element t o wide limit level w i j
      element_wide (empty l k close) = empty l (wide_tag k) close
      element_wide (full l k start c close) = full l (wide_tag k) start (content_wide c) close

      content_wide : {level w i j : ℕ} → Content t o rule limit level w i j → Content t o wide limit level w i j
      content_wide g.Content.no_more = g.Content.no_more
      content_wide (g.Content.item i k c) = g.Content.item i k (content_wide c)
      content_wide (cdata k c) = cdata k (content_wide c)
      content_wide (instruction k d c) = instruction k d (content_wide c)
      content_wide (child x c) = child (element_wide x) (content_wide c)

    -- in a body by the rule each open token keeps it
    tag_keeps : {w v i j k n : ℕ} → Tag t o rule w i j → Stands t o j k v → (k ≡ attribute_kind → ⊥) → i ≡ n → Keeps n
    tag_keeps {i = i} x s h q =
        subst Keeps q (λ e. subst (λ (b : Bool). rule (get_or t i 0) b) (some_attributes x.attributes s h) x.ruled)

    mutual
      element_keeps : {level w i j : ℕ} → Element t o rule limit level w i j → (n : ℕ) → i ≤ n → n < j → Keeps n
      element_keeps {i = i} (empty {a = a} l k close) n b h =
          first_or_after i n b (tag_keeps k close (λ e. omega arith))
          (λ q. before_or_not n a (λ r e. absurd (attributes_not_open k.attributes n q r e))
          (λ r e. absurd (not_open close (λ z. omega arith) (omega arith) e)))
      element_keeps {i = i} (full {a = a} {c = c} l k start x close) n b h =
          first_or_after i n b (tag_keeps k start (λ e. omega arith))
          (λ q. before_or_not n a (λ r e. absurd (attributes_not_open k.attributes n q r e))
          (λ r. first_or_after a n r (λ u e. absurd (not_open start (λ z. omega arith) u e))
          (λ u. before_or_not n c (λ v. content_keeps x n u v) (λ v e. absurd (not_open close (λ z. omega arith) (omega arith) e)))))

      content_keeps : {level w i j : ℕ} → Content t o rule limit level w i j → (n : ℕ) → i ≤ n → n < j → Keeps n
      content_keeps g.Content.no_more n b h = absurd (omega arith)
      content_keeps {i = i} (g.Content.item x k c) n b h =
          first_or_after i n b (λ q e. absurd (not_open k (no_open x) q e)) (λ q. content_keeps c n q h)
      content_keeps {i = i} (cdata k c) n b h =
          first_or_after i n b (λ q e. absurd (not_open k (λ z. omega arith) q e)) (λ q. content_keeps c n q h)
      content_keeps {i = i} (instruction k d c) n b h =
          first_or_after i n b (λ q e. absurd (not_open k (λ z. omega arith) q e))
          (λ q. first_or_after (suc i) n q (λ u e. absurd (not_open d (λ z. omega arith) u e)) (λ u. content_keeps c n u h))
      content_keeps (child {m = m} x c) n b h = before_or_not n m (λ q. element_keeps x n b q) (λ q. content_keeps c n q h)

    root_keeps : {i j : ℕ} → Root t o rule limit i j → (n : ℕ) → i ≤ n → n < j → Keeps n
    root_keeps (an_instance k) n b h = λ e. absurd (not_open k (λ z. omega arith) (omega arith) e)
    root_keeps (an_element x) n b h = element_keeps x n b h

    body_keeps : {i j : ℕ} → Body t o rule limit i j → (n : ℕ) → i ≤ n → n < j → Keeps n
    body_keeps (parts {a = a} {b = m} l x c) n b h =
        before_or_not n a (λ q e. absurd (pair_not_open l n b q e))
        (λ q. before_or_not n m (λ r. root_keeps x n q r) (λ r e. absurd (pair_not_open c n r h e)))

    -- and where each open token keeps the rule, a body by the wide rule is one by it
    module _ (keeps : (n : ℕ) → Keeps n) where
      own_tag : {w v i j k : ℕ} → Tag t o wide w i j → Stands t o j k v → (k ≡ attribute_kind → ⊥) → Tag t o rule w i j
      own_tag {i = i} {j = j} x s h =
          record {
            opening = x.opening;
            attributes = x.attributes;
            ruled = subst (λ (b : Bool). rule (get_or t i 0) b) (sym (some_attributes x.attributes s h)) (keeps i x.opening.kind);
          }

      mutual
        element_own : {level w i j : ℕ} → Element t o wide limit level w i j → Element t o rule limit level w i j
        element_own (empty l k close) = empty l (own_tag k close (λ e. omega arith)) close
        element_own (full l k start c close) = full l (own_tag k start (λ e. omega arith)) start (content_own c) close

        content_own : {level w i j : ℕ} → Content t o wide limit level w i j → Content t o rule limit level w i j
        content_own g.Content.no_more = g.Content.no_more
        content_own (g.Content.item i k c) = g.Content.item i k (content_own c)
        content_own (cdata k c) = cdata k (content_own c)
        content_own (instruction k d c) = instruction k d (content_own c)
        content_own (child x c) = child (element_own x) (content_own c)

      root_own : {i j : ℕ} → Root t o wide limit i j → Root t o rule limit i j
      root_own (an_instance k) = an_instance k
      root_own (an_element x) = an_element (element_own x)

      body_own : {i j : ℕ} → Body t o wide limit i j → Body t o rule limit i j
      body_own (parts l x c) = parts l (root_own x) c

    root_wide : {i j : ℕ} → Root t o rule limit i j → Root t o wide limit i j
    root_wide (an_instance k) = an_instance k
    root_wide (an_element x) = an_element (element_wide x)

    body_wide : {i j : ℕ} → Body t o rule limit i j → Body t o wide limit i j
    body_wide (parts l x c) = parts l (root_wide x) c

    pub reading_wide : Reading rule limit t o → Reading wide limit t o
    reading_wide r = record { each = r.each; body = body_wide r.body }

    pub reading_keeps : Reading rule limit t o → (n : ℕ) → Keeps n
    reading_keeps r n =
        before_or_not n (length t) (λ h. body_keeps r.body n (omega arith) h)
        (λ h e.
        let z : kind_of (get_or t n 0) ≡ 0 = ap kind_of (get_or-eq_default t 0 h) ∙ zero_kind in
        absurd (omega arith))

    pub reading_own : ((n : ℕ) → Keeps n) → Reading wide limit t o → Reading rule limit t o
    reading_own h r = record { each = r.each; body = body_own h r.body }
