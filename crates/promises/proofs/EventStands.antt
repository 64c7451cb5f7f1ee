-- Each substitution of an accepted event stands for a value that is there, and its row tells that value. Assumes nothing.
use mathlib.Core.Path.{◌≡◌, refl, sym, ap, subst, ◌∙◌}
use mathlib.Core.Bool.{Bool, true, false}
use mathlib.Core.List.{List, [], ◌∷◌}
use Prim.Native.Nat.{ℕ, zero, suc, ◌+◌, ◌*◌, ◌/◌, ◌≤◌}
use native.Mathlib.Omega.{arith}
use borrow.Author.Tests.{eq-eqb, leb-false}
use lib.Dec.{eqb, leb}
use lib.ListN.{length, drop, length-append}
use Rattle.cursor.specs.Answer.{Result, gives, refuses, pick, just}
use Rattle.cursor.specs.Lent.{laid, lent_left}
use Rattle.cursor.specs.Refusals.{no_room_number}
use Rattle.cursor.proofs.Choice.{either}
use Rattle.tokens.specs.Token.{open_kind, substitution_kind}
use Rattle.tokens.specs.Walk.{window_of, walk_in}
use Rattle.tokens.specs.declared.Instance.{Instance}
use Rattle.tokens.specs.declared.Token.{Token}
use Rattle.tokens.proofs.Steps.{All, walk_window}
use Rattle.sheet.specs.Sheet.{mark_of}
use Rattle.body.specs.Grammar.{kind_of}
use Rattle.body.specs.Reader.{verdict_on}
use Rattle.body.proofs.Answers.{verdict_right}
use Rattle.nest.specs.Nested.{deepest_body, inner_flags}
use Rattle.event.specs.Accepted as accepted
use Rattle.event.specs.Accepted.{Each, NotPast, ReadableBy, Readable}
use Rattle.event.specs.Event.{other_definition, Span, text, is_item, definition_flags, its_own, definition_of, stood_for, content_told, value_told, held_told, item_told, hung_at, row_with, words_per_row, bodies_at, event_of, event_answer}
use Rattle.event.specs.declared.text.Root.{Root}
use Rattle.event.specs.declared.text.Root.TheVariants as R
use Rattle.event.proofs.Exactly.{exactly_accepted}
use Rattle.event.proofs.Lending.{WindowStands, window_stands}
use Rattle.promises.specs.Told.{Marked}
use Rattle.promises.specs.EventRows.{EachRow, no_row, a_row, OwnRow}
use Rattle.promises.specs.EventValues.{AllThere, HasValues, Stands, EachStands, ValueRow, ValueThere}
use Rattle.promises.proofs.NestComplete.{in_stream, exactly_when}
use Rattle.promises.proofs.Marks.{marks_told}
use Rattle.promises.proofs.EventRows.{never, gives_is, each_map, not_past, own_only}
use Rattle.promises.proofs.EventValues.{Holds, Whole, bodies_whole}

-- of each of a list: what follows from two things, and one by its number
each_both : {A : Type 0} (P Q S : A → Type 0) → ((x : A) → P x → Q x → S x) → (l : List A) → Each P l → Each Q l → Each S l
each_both P Q S f [] p q = tt
each_both P Q S f (x ∷ l) p q = (f x p.0 q.0, each_both P Q S f l p.1 q.1)

each_at : {A : Type 0} (P : A → Type 0) (l : List A) → Each P l → (k : ℕ) (x : A) (rest : List A) → drop k l ≡ x ∷ rest → P x
each_at P [] h zero x rest e = let z : ◌≡◌ {A = ℕ} 0 1 = cc in absurd (omega arith)
each_at P [] h (suc k) x rest e = let z : ◌≡◌ {A = ℕ} 0 1 = cc in absurd (omega arith)
each_at P (y ∷ l) h zero x rest e = let q : y ≡ x = cc in subst P q h.0
each_at P (y ∷ l) h (suc k) x rest e = each_at P l h.1 k x rest e

-- a substitution of a walk is an item
mark_is : (m : ℕ) → kind_of m ≡ substitution_kind → m ≡ substitution_kind
unfolding kind_of
mark_is m = either (λ (z : ℕ). z ≡ substitution_kind → m ≡ substitution_kind) (eqb m 18) open_kind m (λ _ e. absurd (omega arith)) (λ _ e. e)

an_item : (t : Token) → Marked t → t.kind ≡ substitution_kind → is_item (mark_of t) ≡ true
an_item t m k = ap is_item (mark_is (mark_of t) (m.0 ∙ k))

module _ (s : List ℕ) (inline : Bool) where
  -- one that is not past the count stands for a value
  stands : (i : Instance) → AllThere s i → (t : Token) → NotPast (R.Instance i) t → Marked t → Stands s i t
  stands i h t n m k =
      h t.number
      (leb-false i.count t.number (not_past (eqb t.kind substitution_kind) (leb i.count t.number) (eq-eqb _ _ k) (n (an_item t m k))))

  -- where an instance's definition has its tokens
  own_there : (i : Instance) (d : accepted.Own verdict_on s inline i) → definition_of s i ≡ gives (d.from, d.from + d.definition.size)
  own_there i d =
      ap (its_own s i) d.there
      ∙ ap (λ (c : Bool). pick c (gives (d.from, d.from + d.definition.size)) (refuses other_definition i.offset))
      (eq-eqb d.definition.first i.id d.by_id)

  -- every token of a definition that is walked has its kind's mark
  walk_marked : (i : Instance) (d : accepted.Walks verdict_on s inline i) → length s ≤ 65536 → All Marked d.tokens
  walk_marked i d h =
      let from = d.own.from in
      let size = d.own.definition.size in
      let f = definition_flags inline in
      let k = subst (WindowStands s) (own_there i d.own) (window_stands s 0 0 (R.Instance i) (omega arith)) in
      let e = ap (walk_in s f) (sym (in_stream s from size h k)) ∙ walk_window s from size f (window_of s from size) refl in
      marks_told s from size f d.tokens (sym e ∙ d.walked)

  -- each substitution of a body's text
  body_stands : (x : Span) → length s ≤ 65536 → Whole s inline x → Readable verdict_on s inline x → EachStands s inline x
  body_stands x h v r i e =
      let y = subst (ReadableBy verdict_on s inline x) e r in
      let d = y.0.walks in
      let a = subst (Holds s inline) e v in (
        d.tokens,
        (
          (d.own.from, (d.own.from + d.own.definition.size, (own_there i d.own, d.walked))),
          each_both (NotPast (R.Instance i)) Marked (Stands s i) (stands i a) d.tokens y.1 (walk_marked i d h),
        ),
      )

  -- the row of one
  module _ (bodies : List Span) (whole : Each (Whole s inline) bodies) (row : List ℕ) (o : OwnRow s inline bodies row) where
    value_row : ValueRow s inline bodies row
    value_row =
        record {
          of_own = o;
          of_value = λ i e k.
              let r = o.of in
              let t = r.token in
              let a = subst (Holds s inline) (sym r.is_root ∙ e) (each_at (Whole s inline) bodies whole r.body r.at _ r.is_body) in
              let v = a t.number (o.own i e k).below in
              let there : stood_for s r.root t.number ≡ just v.0 = ap (λ (x : Root). stood_for s x t.number) e ∙ v.1 in
              let told : item_told s r.root t ≡ content_told s v.0.code v.0.content =
              ap (λ (b : Bool). pick b (value_told s (stood_for s r.root t.number)) (held_told s t.held)) (eq-eqb t.kind substitution_kind k)
              ∙ ap (value_told s) there
              in
              record {
                value = v.0;
                there = there;
                says = r.says ∙ ap (row_with r.body r.item (hung_at (text r.tokens r.owners r.root) r.item) t) told;
              };
        }

-- rows have six words each
sixes : {P : List ℕ → Type 0} {words : List ℕ} → ((row : List ℕ) → P row → length row ≡ words_per_row) → EachRow P words
    → (k : ℕ) × (length words ≡ k * words_per_row)
sixes f no_row = (0, refl)
sixes f (a_row row rest p r e) =
    let k = sixes f r in (suc k.0, ap length e ∙ length-append row rest ∙ (omega (arith, f row p, k.1)))

-- a count that is answered: the rows lie in the lent words
record Answered (r : Result (List ℕ)) (lent : List ℕ) (count : ℕ) : Type 0 where
  words : List ℕ
  given : r ≡ gives words
  lie : lent_left r lent ≡ laid words lent
  counted : count ≡ length words / words_per_row

with_room : (words lent : List ℕ) (count : ℕ) (b : Bool) → gives count ≡ pick b (gives (length words / words_per_row)) (refuses no_room_number (length words))
    → (pick b (laid words lent) lent ≡ laid words lent) × (count ≡ length words / words_per_row)
with_room words lent count true e = (refl, gives_is e)
with_room words lent count false e = absurd (never (sym e))

answered : (r : Result (List ℕ)) (lent : List ℕ) (count : ℕ) → gives count ≡ event_answer r lent → Answered r lent count
answered (gives words) lent count e =
    let x = with_room words lent count (leb (length words) (length lent)) e in
    record { words = words; given = refl; lie = x.0; counted = x.1 }
answered (refuses k p) lent count e = absurd (never (sym e))

-- "the substitution with number m stands for the instance's value m"
pub value_there : ValueThere
value_there s start len inline lent left count h =
    let q = h verdict_on verdict_right in
    let a = answered (event_of verdict_on s inline start len) lent count q.0 in
    let bodies = bodies_at s inline deepest_body start (start + len) in
    let x = (exactly_accepted verdict_on s inline start len).only_accepted a.words a.given in
    let n = (exactly_when verdict_on verdict_right s start len (inner_flags inline) x.0).0 x.1.0 in
    let whole : Each (Whole s inline) bodies = bodies_whole inline deepest_body n.2 in
    let rows = each_map (value_row s inline bodies whole) (own_only verdict_on verdict_right s inline start len a.words a.given) in
    let k = sixes (λ row r. ap length r.of_own.of.says) rows in
    record {
      words = a.words;
      lie = q.1 ∙ a.lie;
      counted = omega (arith, k.1, a.counted);
      rows = rows;
      values = each_both (Whole s inline) (Whole s inline) (HasValues s inline) (λ y v _ i e. subst (Holds s inline) e v) bodies whole whole;
      substitutions =
          each_both (Whole s inline) (Readable verdict_on s inline) (EachStands s inline) (λ y v r. body_stands s inline y n.0 v r) bodies whole x.1.1;
    }
