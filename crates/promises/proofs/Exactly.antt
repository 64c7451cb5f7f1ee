-- 20 falls exactly where announced and present disagree. Assumes nothing.
use mathlib.Core.Path.{◌≡◌, refl, sym, ap, subst, ◌∙◌}
use mathlib.Core.Bool.{Bool, true, false}
use mathlib.Core.List.{List, [], ◌∷◌, ◌++◌, append_assoc}
use Prim.Native.Nat.{ℕ, suc, ◌+◌, ◌≤◌, ◌<◌}
use native.Mathlib.Omega.{arith}
use borrow.Author.Tests.{eq-eqb, ne_eqb, ltb-false}
use lib.Dec.{eqb, ltb}
use lib.ListN.{length, take, drop, get_or, get_or-append}
use lib.Seq.{take-suc, drop-cons, get_or-take, length-take-le}
use Rattle.tokens.specs.Token.{open_kind, attribute_kind}
use Rattle.body.specs.Grammar.{narrow, wide, announces, kind_of, Reading}
use Rattle.body.specs.Verdict.{Begins, Disagrees, Refuses, disagreeing}
use Rattle.body.specs.Reader.{State, begin, root, tag, inside, done, target, Out, accepted, refused, Step, move, stop, is_item, closes, step, ended, outcome, words_from}
use Rattle.body.proofs.Moves.{Move, m_leading, m_instance, m_root, m_attribute, m_empty, m_start, m_tag_item, m_close, m_child, m_target, m_cdata, m_item, m_closing, m_data, no_item, Says, goes, wrong, deep, differs, says, moves}
use Rattle.body.proofs.Runs.{MoveAt}
use Rattle.body.proofs.Rules.{reading_keeps}
use Rattle.body.proofs.Agree.{outcome_on, outcome_on_lem, outcome_nil, not_accepted, body_read, read_body}
use Rattle.body.proofs.Refusing.{refuses_right, begun, accepts}
use Rattle.body.proofs.One.{begins_wide, one_refusal, not_both}
use Rattle.promises.specs.Exactly.{Mismatch, not_announced, none_before_empty, none_before_start, Exactly}

other_number : {A : Type 0} (k m p q : ℕ) → refused k p ≡ refused m q → (k ≡ m → ⊥) → A
other_number k m p q e h =
    let z : k ≡ m = cc in
    absurd (h z)

true_false : {A : Type 0} (b : Bool) → b ≡ true → b ≡ false → A
true_false b e f =
    let z : ◌≡◌ {A = ℕ} 0 1 = cc in
    absurd (omega arith)

module _ (t : List ℕ) where
  -- right after an open token: it is the token before, with its bit
  abbrev After : Bool → ℕ → Type 0
  After c n = (j : ℕ) × ((n ≡ suc j) × (kind_of (get_or t j 0) ≡ open_kind) × (announces (get_or t j 0) ≡ c))

  -- what the narrow reader knows at token n: in a tag without an attribute yet it stands right after the open token, and a tag that announces
  -- none has none
  unfoldable Fresh : State → ℕ → Type 0
  Fresh begin n = Unit {0}
  Fresh root n = Unit {0}
  Fresh (tag c a w st) n = (a ≡ 0 → After c n) × (c ≡ false → a ≡ 0)
  Fresh (inside st) n = Unit {0}
  Fresh done n = Unit {0}
  Fresh (target w s) n = Fresh s (suc n)

  fresh_on : {limit n w : ℕ} {s s' : State} → MoveAt true t limit n s w s' → Fresh s n → Fresh s' (suc n)
  unfolding Fresh
  fresh_on (m_leading e) f = tt {0}
  fresh_on (m_instance b e) f = tt {0}
  fresh_on {n = n} (m_root b e h) f = (λ z. (n, (refl, e, refl)), λ z. refl)
  fresh_on (m_attribute {c} e h) f = (λ z. absurd (omega arith), λ z. true_false c h z)
  fresh_on (m_empty e h) f = tt {0}
  fresh_on (m_start e h) f = tt {0}
  fresh_on (m_tag_item i h) f = (λ z. absurd (h z), f.1)
  fresh_on (m_close e) f = tt {0}
  fresh_on {n = n} (m_child e h) f = (λ z. (n, (refl, e, refl)), λ z. refl)
  fresh_on (m_target e) f = tt {0}
  fresh_on (m_cdata e) f = tt {0}
  fresh_on (m_item i) f = tt {0}
  fresh_on (m_closing e) f = tt {0}
  fresh_on (m_data e) f = f

  -- a tag without the attribute that it announces
  bare : (c : Bool) (a : ℕ) → closes c a ≡ false → (c ≡ true) × (a ≡ 0)
  bare true a e = let l = ltb-false 0 a e in (refl, omega (arith, l))
  bare false a e = true_false true refl e

  unannounced : (n : ℕ) → After false n → kind_of (get_or t n 0) ≡ attribute_kind → Mismatch t n
  unannounced n (j, (e, k, b)) h =
      subst (Mismatch t) (sym e) (not_announced j k b (sym (ap (λ (x : ℕ). kind_of (get_or t x 0)) e) ∙ h))

  empty_bare : (n : ℕ) → After true n → kind_of (get_or t n 0) ≡ 4 → Mismatch t n
  empty_bare n (j, (e, k, b)) h =
      subst (Mismatch t) (sym e) (none_before_empty j k b (sym (ap (λ (x : ℕ). kind_of (get_or t x 0)) e) ∙ h))

  start_bare : (n : ℕ) → After true n → kind_of (get_or t n 0) ≡ 3 → Mismatch t n
  start_bare n (j, (e, k, b)) h =
      subst (Mismatch t) (sym e) (none_before_start j k b (sym (ap (λ (x : ℕ). kind_of (get_or t x 0)) e) ∙ h))

  -- where the wide rule has a move and the narrow one has none
  abbrev NoMove : ℕ → State → Type 0
  NoMove n s = (l w : ℕ) (s' : State) → MoveAt true t l n s w s' → ⊥

  by_attribute : (n : ℕ) (c : Bool) (a w : ℕ) (st : List ℕ) → NoMove n (tag c a w st) → (a ≡ 0 → After c n) × (c ≡ false → a ≡ 0) → kind_of (get_or t n 0) ≡ 7 → Mismatch t n
  by_attribute n true a w st g f e = absurd (g 64 w (tag true (suc n) w st) (m_attribute e refl))
  by_attribute n false a w st g f e = unannounced n (f.0 (f.1 refl)) e

  closed : (c : Bool) (a n : ℕ) → closes c a ≡ false → (a ≡ 0 → After c n) → After true n
  closed c a n e f =
      let b = bare c a e in
      subst (λ (x : Bool). After x n) b.0 (f b.1)

  by_empty : (n : ℕ) (c : Bool) (a w : ℕ) (st : List ℕ) → NoMove n (tag c a w st) → (a ≡ 0 → After c n) → kind_of (get_or t n 0) ≡ 4 → (x : Bool) → closes c a ≡ x → Mismatch t n
  by_empty n c a w st g f e true x = absurd (g 64 w (inside st) (m_empty e x))
  by_empty n c a w st g f e false x = empty_bare n (closed c a n x f) e

  by_start : (n : ℕ) (c : Bool) (a w : ℕ) (st : List ℕ) → NoMove n (tag c a w st) → (a ≡ 0 → After c n) → kind_of (get_or t n 0) ≡ 3 → (x : Bool) → closes c a ≡ x → Mismatch t n
  by_start n c a w st g f e true x = absurd (g 64 w (inside (w ∷ st)) (m_start e x))
  by_start n c a w st g f e false x = start_bare n (closed c a n x f) e

  mismatch : {l n w : ℕ} {s s' : State} → Fresh s n → MoveAt false t l n s w s' → NoMove n s → Mismatch t n
  unfolding Fresh
  mismatch {l} f (m_leading e) g = absurd (g l _ _ (m_leading e))
  mismatch {l} f (m_instance b e) g = absurd (g l _ _ (m_instance b e))
  mismatch {l} f (m_root b e h) g = absurd (g l _ _ (m_root b e h))
  mismatch {n = n} f (m_attribute {c} {a} {w} {st} e h) g = by_attribute n c a w st g f e
  mismatch {n = n} f (m_empty {c} {a} {w} {st} e h) g = by_empty n c a w st g f.0 e (closes c a) refl
  mismatch {n = n} f (m_start {c} {a} {w} {st} e h) g = by_start n c a w st g f.0 e (closes c a) refl
  mismatch {l} f (m_tag_item i h) g = absurd (g l _ _ (m_tag_item i h))
  mismatch {l} f (m_close e) g = absurd (g l _ _ (m_close e))
  mismatch {l} f (m_child e h) g = absurd (g l _ _ (m_child e h))
  mismatch {l} f (m_target e) g = absurd (g l _ _ (m_target e))
  mismatch {l} f (m_cdata e) g = absurd (g l _ _ (m_cdata e))
  mismatch {l} f (m_item i) g = absurd (g l _ _ (m_item i))
  mismatch {l} f (m_closing e) g = absurd (g l _ _ (m_closing e))
  mismatch {l} f (m_data e) g = absurd (g l _ _ (m_data e))

  -- where the tokens end nothing disagrees
  ended_other : (s : State) (n p : ℕ) → ended s n ≡ refused 20 p → Mismatch t p
  unfolding ended
  ended_other begin n p e = other_number 15 20 n p e (λ z. omega arith)
  ended_other root n p e = other_number 15 20 n p e (λ z. omega arith)
  ended_other (tag c a w st) n p e = other_number 15 20 n p e (λ z. omega arith)
  ended_other (inside []) n p e = absurd (not_accepted 20 p (sym e))
  ended_other (inside (w ∷ st)) n p e = other_number 15 20 n p e (λ z. omega arith)
  ended_other done n p e = absurd (not_accepted 20 p (sym e))
  ended_other (target w s) n p e = other_number 15 20 n p e (λ z. omega arith)

  told_on : (l : ℕ) (ks : List ℕ) (s : State) (n p : ℕ) (x : Step) → Says true l n (announces (get_or t n 0)) (kind_of (get_or t n 0)) s x → Fresh s n
      → outcome_on true l n ks x ≡ refused 20 p → ((s' : State) → Fresh s' (suc n) → outcome true l s' (suc n) ks ≡ refused 20 p → Mismatch t p) → Mismatch t p
  told_on l ks s n p x (goes w s' m) f e g = g s' (fresh_on m f) e
  told_on l ks s n p x (wrong h) f e g = other_number 13 20 n p e (λ z. omega arith)
  told_on l ks s n p x (deep w s' c h) f e g = other_number 14 20 n p e (λ z. omega arith)
  told_on l ks s n p x (differs w s' m h) f e g =
      let q : n ≡ p = cc in
      subst (Mismatch t) q (mismatch f (m l) h)

  told : (l : ℕ) (ks : List ℕ) (s : State) (n p : ℕ) → n + length ks ≡ length t → drop n t ≡ ks → Fresh s n → outcome true l s n ks ≡ refused 20 p → Mismatch t p
  told l [] s n p c d f e = ended_other s n p (sym (outcome_nil true l n s) ∙ e)
  told l (k ∷ ks) s n p c d f e =
      let h : n < length t = omega arith in
      let a : get_or t n 0 ∷ drop (suc n) t ≡ k ∷ ks = sym (drop-cons t n 0 h) ∙ d in
      let q : get_or t n 0 ≡ k = cc in
      let x = step true l s n (get_or t n 0) in
      let y : step true l s n k ≡ x = ap (step true l s n) (sym q) in
      told_on l ks s n p x (says true l n (announces (get_or t n 0)) (kind_of (get_or t n 0)) s) f (sym (outcome_on_lem true l s n k ks x y) ∙ e)
      (λ s' g z. told l ks s' (suc n) p (omega arith) (cc) g z)

  -- 20 falls only there
  only : (i : ℕ) → Refuses t 20 i → Mismatch t i
  unfolding Fresh
  only i x = by_outcome (outcome true 64 begin 0 t) refl
    where
      by_outcome : (o : Out) → outcome true 64 begin 0 t ≡ o → Mismatch t i
      by_outcome accepted e = absurd (not_both t (words_from true 64 begin 0 t) (read_body true 64 t e) x)
      by_outcome (refused k p) e =
          let z = one_refusal t (refuses_right t k p e) x in
          told 64 t begin 0 i (omega arith) refl (tt {0}) (e ∙ (λ j. refused (z.0 j) (z.1 j)))

-- tokens of which some body begins: the state that the reader comes to
record Reached (r : Bool) (l : ℕ) (s : State) (n : ℕ) (ks : List ℕ) : Type 0 where
  pub state : State
  pub place : ℕ
  pub same : (others : List ℕ) → outcome r l s n (ks ++ others) ≡ outcome r l state place others

module _ (r : Bool) (l : ℕ) where
  reach : (ks others : List ℕ) (s : State) (n : ℕ) → outcome r l s n (ks ++ others) ≡ accepted
      → (r₀ : Reached r l s n ks) × (outcome r l r₀.state r₀.place others ≡ accepted)
  reach [] others s n e = (record { state = s; place = n; same = λ o. refl }, e)
  reach (k ∷ ks) others s n e =
      on_says (step r l s n k) (says r l n (announces k) (kind_of k) s) refl (sym (outcome_on_lem r l s n k (ks ++ others) (step r l s n k) refl) ∙ e)
      (λ s' f. reach ks others s' (suc n) f)
    where
      on_says : (x : Step) → Says r l n (announces k) (kind_of k) s x → step r l s n k ≡ x → outcome_on r l n (ks ++ others) x ≡ accepted
          → ((s' : State) → outcome r l s' (suc n) (ks ++ others) ≡ accepted → (r₀ : Reached r l s' (suc n) ks) × (outcome r l r₀.state r₀.place others ≡ accepted))
          → (r₀ : Reached r l s n (k ∷ ks)) × (outcome r l r₀.state r₀.place others ≡ accepted)
      on_says x (goes w s' m) c e f =
          let y = f s' e in
          (record { state = y.0.state; place = y.0.place; same = λ o. outcome_on_lem r l s n k (ks ++ o) (move w s') (moves m) ∙ y.0.same o }, y.1)
      on_says x (wrong h) c e f = absurd (not_accepted 13 n e)
      on_says x (deep w s' b h) c e f = absurd (not_accepted 14 n e)
      on_says x (differs w s' b h) c e f = absurd (not_accepted 20 n e)

-- an open token leads into its tag
into_tag : {r : Bool} {l n : ℕ} {b : Bool} {k w : ℕ} {s s' : State} → Move r l n b k s w s' → k ≡ 2 → (st : List ℕ) × (s' ≡ tag b 0 (suc n) st)
into_tag (m_leading e) z = absurd (omega arith)
into_tag (m_instance b e) z = absurd (omega arith)
into_tag (m_root b e h) z = ([], refl)
into_tag (m_attribute e h) z = absurd (omega arith)
into_tag (m_empty e h) z = absurd (omega arith)
into_tag (m_start e h) z = absurd (omega arith)
into_tag {k = k} (m_tag_item i h) z = absurd (no_item k (subst (λ (y : ℕ). is_item y ≡ false) (sym z) refl) i)
into_tag (m_close e) z = absurd (omega arith)
into_tag (m_child {w} {st} e h) z = (w ∷ st, refl)
into_tag (m_target e) z = absurd (omega arith)
into_tag (m_cdata e) z = absurd (omega arith)
into_tag {k = k} (m_item i) z = absurd (no_item k (subst (λ (y : ℕ). is_item y ≡ false) (sym z) refl) i)
into_tag (m_closing e) z = absurd (omega arith)
into_tag (m_data e) z = absurd (omega arith)

-- the kinds that the wide rule allows in a tag, whatever it announces
data InTag : ℕ → Type 0 where
  attribute_there : InTag 7
  empty_there : InTag 4
  start_there : InTag 3

in_tag : {k : ℕ} → InTag k → (n : ℕ) (b c : Bool) (a w : ℕ) (st : List ℕ) → (v : ℕ) × ((s' : State) × Move false 64 n b k (tag c a w st) v s')
in_tag attribute_there n b c a w st = (w, (tag c (suc n) w st, m_attribute refl refl))
in_tag empty_there n b c a w st = (w, (inside st, m_empty refl refl))
in_tag start_there n b c a w st = (w, (inside (w ∷ st), m_start refl refl))

module _ (t : List ℕ) (j : ℕ) (h : suc j < length t) where
  -- one token more
  longer : (i : ℕ) (others : List ℕ) → i < length t → take (suc i) t ++ others ≡ take i t ++ (get_or t i 0 ∷ others)
  longer i others g = ap (λ (x : List ℕ). x ++ others) (take-suc t i 0 g) ∙ append_assoc (take i t) (get_or t i 0 ∷ []) others

  -- the wide grammar goes on after an open token
  module _ (o : kind_of (get_or t j 0) ≡ 2) (k : InTag (kind_of (get_or t (suc j) 0))) where
    after_tag : (y : Reached false 64 begin 0 (take j t)) (x : Step)
        → Says false 64 y.place (announces (get_or t j 0)) (kind_of (get_or t j 0)) y.state x → (others : List ℕ)
        → outcome_on false 64 y.place others x ≡ accepted → Begins wide 64 (take (suc (suc j)) t)
    after_tag y x (goes w s' m) others e =
        let p = y.place in
        let u = get_or t (suc j) 0 in
        let g = into_tag m o in
        let q = in_tag k (suc p) (announces u) (announces (get_or t j 0)) 0 (suc p) g.0 in
        begun false 64 (take (suc (suc j)) t) q.1.0 (suc (suc p))
        (λ rest.
        ap (outcome false 64 begin 0) (longer (suc j) rest h ∙ longer j (u ∷ rest) (omega arith)) ∙ y.same (get_or t j 0 ∷ u ∷ rest)
        ∙ outcome_on_lem false 64 y.state p (get_or t j 0) (u ∷ rest) (move w s') (moves m)
        ∙ ap (λ (s : State). outcome false 64 s (suc p) (u ∷ rest)) g.1
        ∙ outcome_on_lem false 64 (tag (announces (get_or t j 0)) 0 (suc p) g.0) (suc p) u rest (move q.0 q.1.0) (moves q.1.1))
    after_tag y x (wrong f) others e = absurd (not_accepted 13 y.place e)
    after_tag y x (deep w s' c f) others e = absurd (not_accepted 14 y.place e)
    after_tag y x (differs w s' c f) others e = absurd (not_accepted 20 y.place e)

    wide_on : Begins narrow 64 (take (suc j) t) → Begins wide 64 (take (suc (suc j)) t)
    wide_on b =
        let a = accepts false 64 64 (omega arith) (take (suc j) t) (begins_wide narrow 64 (take (suc j) t) b) in
        let e : outcome false 64 begin 0 (take j t ++ (get_or t j 0 ∷ a.0)) ≡ accepted = sym (ap (outcome false 64 begin 0) (longer j a.0 (omega arith))) ∙ a.1 in
        let y = reach false 64 (take j t) (get_or t j 0 ∷ a.0) begin 0 e in
        let x = step false 64 y.0.state y.0.place (get_or t j 0) in
        after_tag y.0 x (says false 64 y.0.place (announces (get_or t j 0)) (kind_of (get_or t j 0)) y.0.state) a.0
        (sym (outcome_on_lem false 64 y.0.state y.0.place (get_or t j 0) a.0 x refl) ∙ y.1)

  -- a token of the front is that of the whole
  in_front : (others : List ℕ) (x : ℕ) → x < suc (suc j) → get_or (take (suc (suc j)) t ++ others) x 0 ≡ get_or t x 0
  in_front others x g =
      let n = length-take-le (suc (suc j)) t (omega arith) in
      get_or-append (take (suc (suc j)) t) others 0 x (omega (arith, n)) ∙ get_or-take (suc (suc j)) t x 0 g

  -- no narrow body goes on where the bit of the open token and what follows it are not the same
  none_on : kind_of (get_or t j 0) ≡ 2 → (announces (get_or t j 0) ≡ eqb (kind_of (get_or t (suc j) 0)) attribute_kind → ⊥) → (l : ℕ) → Begins narrow l (take (suc (suc j)) t) → ⊥
  none_on o f l b =
      let a = in_front b.others j (omega arith) in
      let c = in_front b.others (suc j) (omega arith) in
      f
      (sym (ap announces a) ∙ reading_keeps (take (suc (suc j)) t ++ b.others) b.words narrow l b.reading j (ap kind_of a ∙ o)
      ∙ ap (λ (x : ℕ). eqb (kind_of x) attribute_kind) c)

  falls : Begins narrow 64 (take (suc j) t) → kind_of (get_or t j 0) ≡ 2 → InTag (kind_of (get_or t (suc j) 0))
      → (announces (get_or t j 0) ≡ eqb (kind_of (get_or t (suc j) 0)) attribute_kind → ⊥) → Refuses t 20 (suc j)
  falls b o k f = disagreeing (suc j) (record { there = h; before = b; levels = 64; goes_on = wide_on o k b; none = none_on o f })

-- 20 falls wherever such a token follows a beginning
always : (t : List ℕ) (i : ℕ) → i < length t → Begins narrow 64 (take i t) → Mismatch t i → Refuses t 20 i
always t i h b (not_announced j o c k) =
    falls t j h b o (subst InTag (sym k) attribute_there)
    (λ e. true_false (eqb (kind_of (get_or t (suc j) 0)) attribute_kind) (eq-eqb (kind_of (get_or t (suc j) 0)) attribute_kind k) (sym e ∙ c))
always t i h b (none_before_empty j o c k) =
    falls t j h b o (subst InTag (sym k) empty_there)
    (λ e. true_false (announces (get_or t j 0)) c (e ∙ ne_eqb (kind_of (get_or t (suc j) 0)) attribute_kind (λ z. omega arith)))
always t i h b (none_before_start j o c k) =
    falls t j h b o (subst InTag (sym k) start_there)
    (λ e. true_false (announces (get_or t j 0)) c (e ∙ ne_eqb (kind_of (get_or t (suc j) 0)) attribute_kind (λ z. omega arith)))

pub exactly : (t : List ℕ) (i : ℕ) → Exactly t i
exactly t i = record { only_there = only t i; always_there = always t i }
