-- The rows of an event, each by itself. Assumes nothing.
use mathlib.Core.Path.{◌≡◌, refl, sym, ap, subst, ◌∙◌}
use mathlib.Core.Bool.{Bool, true, false, ◌&&◌}
use mathlib.Core.List.{List, [], ◌∷◌, ◌++◌, append_assoc}
use Prim.Native.Nat.{ℕ, suc, ◌+◌, ◌<◌}
use native.Mathlib.Numerals.{add-one}
use borrow.Author.Tests.{eq-eqb, leb-false}
use lib.Dec.{eqb, leb}
use lib.ListN.{drop}
use lib.Seq.{drop-drop}
use Rattle.cursor.specs.Answer.{Result, gives, refuses, pick}
use Rattle.cursor.proofs.Choice.{either}
use Rattle.tokens.specs.Token.{instance_kind, substitution_kind}
use Rattle.tokens.specs.Walk.{Walked, ok, bad, walk_at}
use Rattle.tokens.specs.declared.Instance.{Instance}
use Rattle.tokens.specs.declared.Token.{Token}
use Rattle.sheet.specs.Sheet.{mark_of, marks_of}
use Rattle.body.specs.Grammar.{narrow, Reading}
use Rattle.body.specs.Verdict.{deepest, Verdict, a_body}
use Rattle.body.specs.Verdict as verdict
use Rattle.body.proofs.Agree.{one_table}
use Rattle.nest.specs.Nested.{deepest_body, inner_flags, Entry, nested_of}
use Rattle.event.specs.Event.{Span, Text, text, is_item, is_past, definition_flags, definition_of, item_told, hung_at, row_with, root_mark, joined, followed_by, rows_from, text_rows, root_at, bodies_at, judged_text, text_by, text_within, text_on, text_of, rows_of, rows_in, event_of}
use Rattle.event.specs.declared.text.Root.{Root}
use Rattle.event.specs.declared.text.Root.TheVariants as R
use Rattle.promises.specs.Nests.{Says}
use Rattle.promises.specs.EventRows.{EachRow, no_row, a_row, OnlyTable, Source, RowOf, Own, OwnRow, OwnOnly}

-- a refusal gives nothing
abbrev Refused : {A : Type 0} → Result A → Type 0
Refused (gives x) = ⊥
Refused (refuses k p) = Unit {0}

pub never : {A : Type 0} {k p : ℕ} {a : A} → refuses k p ≡ gives a → ⊥
never e = subst Refused e tt

abbrev inside : {A : Type 0} → A → Result A → A
inside d (gives x) = x
inside d (refuses k p) = d

pub gives_is : {A : Type 0} {a b : A} → gives a ≡ gives b → a ≡ b
gives_is {a = a} e = ap (inside a) e

-- rows behind one another
each_append : {P : List ℕ → Type 0} {a : List ℕ} (c : List ℕ) → EachRow P a → EachRow P c → EachRow P (a ++ c)
each_append c no_row y = y
each_append c (a_row row rest p r e) y = a_row row (rest ++ c) p (each_append c r y) (ap (λ (l : List ℕ). l ++ c) e ∙ append_assoc row rest c)

pub each_map : {P Q : List ℕ → Type 0} {words : List ℕ} → ((row : List ℕ) → P row → Q row) → EachRow P words → EachRow Q words
each_map f no_row = no_row
each_map f (a_row row rest p r e) = a_row row rest (f row p) (each_map f r) e

-- answers that are joined, where nothing is refused
record Joined (r : Result (List ℕ)) (a words : List ℕ) : Type 0 where
  rest : List ℕ
  after : r ≡ gives rest
  whole : a ++ rest ≡ words

joined_gives : (a : List ℕ) (r : Result (List ℕ)) (words : List ℕ) → joined a r ≡ gives words → Joined r a words
joined_gives a (gives c) words e = record { rest = c; after = refl; whole = gives_is e }
joined_gives a (refuses k p) words e = absurd (never e)

record Followed (r q : Result (List ℕ)) (words : List ℕ) : Type 0 where
  first : List ℕ
  before : r ≡ gives first
  then_is : Joined q first words

followed_gives : (r q : Result (List ℕ)) (words : List ℕ) → followed_by r q ≡ gives words → Followed r q words
followed_gives (gives a) q words e = record { first = a; before = refl; then_is = joined_gives a q words e }
followed_gives (refuses k p) q words e = absurd (never e)

-- what is left of a list whose front is known
next : {A : Type 0} (k : ℕ) (l : List A) (x : A) (m : List A) → drop k l ≡ x ∷ m → drop (suc k) l ≡ m
next k l x m e = sym (drop-drop 1 k l ∙ ap (λ (n : ℕ). drop n l) (add-one k)) ∙ ap (drop 1) e

-- the rows of a text
record ItemRow (s : List ℕ) (x : Text) (b : ℕ) (row : List ℕ) : Type 0 where
  item : ℕ
  token : Token
  there : drop item x.tokens ≡ token ∷ drop (suc item) x.tokens
  an_item : is_item (mark_of token) ≡ true
  below : is_past x.root token ≡ false
  says : row ≡ row_with b item (hung_at x item) token (item_told s x.root token)

module _ (s : List ℕ) (x : Text) (b : ℕ) where
  each_text : (k : ℕ) (l : List Token) (words : List ℕ) → drop k x.tokens ≡ l → rows_from s x b k l ≡ gives words → EachRow (ItemRow s x b) words
  unfolding rows_from
  each_text k [] words d e = subst (EachRow (ItemRow s x b)) (gives_is e) no_row
  each_text k (t ∷ l) words d e =
      let m : drop (suc k) x.tokens ≡ l = next k x.tokens t l d in
      let Goal : Result (List ℕ) → Type 0 = λ z. z ≡ gives words → EachRow (ItemRow s x b) words in
      either Goal (is_item (mark_of t)) _ _
      (λ i. either Goal (is_past x.root t) _ _ (λ p f. absurd (never f))
      (λ p f.
      let row = row_with b k (hung_at x k) t (item_told s x.root t) in
      let j = joined_gives row (rows_from s x b (suc k) l) words f in
      a_row row j.rest
      (record { item = k; token = t; there = d ∙ ap (λ (r : List Token). t ∷ r) (sym m); an_item = i; below = p; says = refl })
      (each_text (suc k) l j.rest m j.after) (sym j.whole)))
      (λ i f. each_text (suc k) l words m f) e

-- a text that is read: its root, where its tokens stand, and the judge's table
module _ (judge : List ℕ → Result (List ℕ)) (s : List ℕ) (inline : Bool) where
  record Read (x : Span) (root : Root) (y : Text) : Type 0 where
    rooted : y.root ≡ root
    source : Source s inline x root y.tokens
    judged : judge (marks_of y.tokens) ≡ gives y.owners

  module _ (x : Span) where
    of_instance : (i : Instance) (from to : ℕ) → definition_of s i ≡ gives (from, to) → (l : List Token) → walk_at s to (definition_flags inline) from ≡ ok l
        → (v : Result (List ℕ)) → judge (marks_of l) ≡ v → (y : Text) → judged_text (R.Instance i) l v ≡ gives y → Read x (R.Instance i) y
    of_instance i from to d l w (gives words) j y f =
        either (λ (z : Result Text). z ≡ gives y → Read x (R.Instance i) y) (eqb (root_mark (marks_of l)) instance_kind) _ _ (λ h g. absurd (never g))
        (λ h g. subst (Read x (R.Instance i)) (gives_is g) (record { rooted = refl; source = (from, (to, (d, w))); judged = j })) f
    of_instance i from to d l w (refuses k p) j y f = absurd (never f)

    of_element : (l : List Token) → walk_at s x.end (inner_flags inline) x.start ≡ ok l → (v : Result (List ℕ)) → judge (marks_of l) ≡ v → (y : Text)
        → judged_text R.Element l v ≡ gives y → Read x R.Element y
    of_element l w (gives words) j y f = subst (Read x R.Element) (gives_is f) (record { rooted = refl; source = w; judged = j })
    of_element l w (refuses k p) j y f = absurd (never f)

    by_walk : (i : Instance) (from to : ℕ) → definition_of s i ≡ gives (from, to) → (w : Walked) → walk_at s to (definition_flags inline) from ≡ w → (y : Text)
        → text_by judge (R.Instance i) w ≡ gives y → Read x (R.Instance i) y
    by_walk i from to d (ok l) w y f = of_instance i from to d l w (judge (marks_of l)) refl y f
    by_walk i from to d (bad k p) w y f = absurd (never f)

    by_definition : (i : Instance) (d : Result (ℕ × ℕ)) → definition_of s i ≡ d → (y : Text) → text_within judge s inline i d ≡ gives y → Read x (R.Instance i) y
    by_definition i (gives (from, to)) d y f = by_walk i from to d (walk_at s to (definition_flags inline) from) refl y f
    by_definition i (refuses k p) d y f = absurd (never f)

    by_window : (w : Walked) → walk_at s x.end (inner_flags inline) x.start ≡ w → (y : Text) → text_by judge R.Element w ≡ gives y → Read x R.Element y
    by_window (ok l) w y f = of_element l w (judge (marks_of l)) refl y f
    by_window (bad k p) w y f = absurd (never f)

    read_text : (root : Root) (y : Text) → text_on judge s inline x root ≡ gives y → Read x root y
    read_text (R.Instance i) y f = by_definition i (definition_of s i) refl y f
    read_text R.Element y f = by_window (walk_at s x.end (inner_flags inline) x.start) refl y f

-- the judge's table is the only one
table_of : (l : List Token) (v : Result (List ℕ)) (owners : List ℕ) → Verdict (marks_of l) v → v ≡ gives owners → OnlyTable l owners
table_of l v owners (a_body words r) e =
    let q = subst (Reading narrow deepest (marks_of l)) (gives_is e) r in
    (q, λ other p. one_table narrow narrow deepest deepest (marks_of l) other owners p q)
table_of l v owners (verdict.refused k p r) e = absurd (never e)

abbrev IsFalse : Bool → Type 0
IsFalse true = ⊥
IsFalse false = Unit {0}

-- a substitution that is not past the count
pub not_past : (a b : Bool) → a ≡ true → a && b ≡ false → b ≡ false
not_past true b e f = f
not_past false b e f = absurd (subst IsFalse e tt)

module _ (judge : List ℕ → Result (List ℕ)) (says : Says judge) (s : List ℕ) (inline : Bool) (bodies : List Span) where
  row_of : (b : ℕ) (x : Span) → drop b bodies ≡ x ∷ drop (suc b) bodies → (y : Text) → Read judge s inline x (root_at s inline x.end x.start) y
      → (row : List ℕ) → ItemRow s y b row → OwnRow s inline bodies row
  row_of b x here y r row z =
      let t = z.token in
      let table = table_of y.tokens _ y.owners (says (marks_of y.tokens)) r.judged in
      let source = subst (λ (root : Root). Source s inline x root y.tokens) (sym r.rooted) r.source in
      record {
        of = record {
          body = b;
          at = x;
          is_body = here;
          root = y.root;
          is_root = r.rooted;
          tokens = y.tokens;
          source = source;
          owners = y.owners;
          table = table;
          item = z.item;
          token = t;
          is_item_lem = (z.there, z.an_item);
          says = z.says;
        };
        own = λ i e k.
            let d = subst (λ (root : Root). Source s inline x root y.tokens) e source in
            let p = ap (λ (root : Root). is_past root t) (sym e) ∙ z.below in
            record {
              from = d.0;
              to = d.1.0;
              its_definition = d.1.1.0;
              tokens = y.tokens;
              walked = d.1.1.1;
              owners = y.owners;
              table = table;
              there = z.there;
              below = leb-false i.count t.number (not_past (eqb t.kind substitution_kind) (leb i.count t.number) (eq-eqb _ _ k) p);
              says = z.says ∙ (simp (eq-eqb _ _ k, e));
            };
      }

  textual : (b : ℕ) (v : Result Text) (words : List ℕ) → text_rows s b v ≡ gives words → (P : List ℕ → Type 0)
      → ((y : Text) → v ≡ gives y → (row : List ℕ) → ItemRow s y b row → P row) → EachRow P words
  textual b (gives y) words e P f = each_map (f y refl) (each_text s y b 0 y.tokens words refl e)
  textual b (refuses k p) words e P f = absurd (never e)

  each_body : (b : ℕ) (l : List Span) (words : List ℕ) → drop b bodies ≡ l → rows_of judge s inline b l ≡ gives words → EachRow (OwnRow s inline bodies) words
  unfolding rows_of
  each_body b [] words d e = subst (EachRow (OwnRow s inline bodies)) (gives_is e) no_row
  each_body b (x ∷ l) words d e =
      let m : drop (suc b) bodies ≡ l = next b bodies x l d in
      let f = followed_gives (text_rows s b (text_of judge s inline x)) (rows_of judge s inline (suc b) l) words e in
      let here = d ∙ ap (λ (r : List Span). x ∷ r) (sym m) in
      subst (EachRow (OwnRow s inline bodies)) f.then_is.whole
      (each_append f.then_is.rest
      (textual b (text_of judge s inline x) f.first f.before (OwnRow s inline bodies) (λ y g. row_of b x here y (read_text judge s inline x (root_at s inline x.end x.start) y g)))
      (each_body (suc b) l f.then_is.rest m f.then_is.after))

  in_order : (v : Result (List Entry)) (words : List ℕ) → rows_in judge s inline v bodies ≡ gives words → EachRow (OwnRow s inline bodies) words
  in_order (gives l) words e = each_body 0 bodies words refl e
  in_order (refuses k p) words e = absurd (never e)

pub own_only : OwnOnly
own_only judge says s inline start len words e =
    in_order judge says s inline (bodies_at s inline deepest_body start (start + len)) (nested_of judge s start len (inner_flags inline)) words e
