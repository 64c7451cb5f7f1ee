-- The reader accepts exactly the bodies of the grammar, with the words of their owner tables; so a body has one table. Assumes nothing.
use mathlib.Core.Path.{◌≡◌, refl, sym, ap, subst, ◌∙◌}
use mathlib.Core.Bool.{Bool, true, false}
use mathlib.Core.List.{List, [], ◌∷◌}
use Prim.Native.Nat.{ℕ, suc, ◌+◌, ◌≤◌, ◌<◌}
use native.Mathlib.Omega.{arith}
use native.Mathlib.Decide.{dec_lt}
use lib.ListN.{length, get_or, drop, drop_of_length-le, get_or-eq_default}
use lib.Seq.{drop-cons}
use Rattle.body.specs.Grammar.{Rule, wide, narrow, announces, kind_of, Reading}
use Rattle.body.specs.Reader.{State, begin, root, tag, inside, done, target, Out, accepted, refused, Step, move, stop, rule_of, turn, step, ended, outcome, words_from}
use Rattle.body.proofs.Moves.{Move, Says, goes, wrong, deep, differs, says, moves, eased, not_zero}
use Rattle.body.proofs.Runs.{Over, after_root, after_closing, MoveAt, Run, over, next, body_run, run_body}
use Rattle.body.proofs.Rules.{zero_kind, reading_wide}

-- after a step: what is left of the answer and of the words
abbrev pub outcome_on : Bool → ℕ → ℕ → List ℕ → Step → Out
outcome_on r limit n ks (move w s') = outcome r limit s' (suc n) ks
outcome_on r limit n ks (stop o) = o

abbrev pub words_on : Bool → ℕ → ℕ → List ℕ → Step → List ℕ
words_on r limit n ks (move w s') = w ∷ words_from r limit s' (suc n) ks
words_on r limit n ks (stop o) = []

module _ (r : Bool) (limit : ℕ) (s : State) (n k : ℕ) (ks : List ℕ) (x : Step) (e : step r limit s n k ≡ x) where
  pub outcome_on_lem : outcome r limit s n (k ∷ ks) ≡ outcome_on r limit n ks x
  unfolding outcome
  outcome_on_lem = ap (λ (y : Step). elim y [ move w s' ↦ outcome r limit s' (suc n) ks | stop o ↦ o ]) e ∙ same x
    where
      same : (y : Step) → (elim y [ move w s' ↦ outcome r limit s' (suc n) ks | stop o ↦ o ]) ≡ outcome_on r limit n ks y
      same (move w s') = refl
      same (stop o) = refl

  pub words_on_lem : words_from r limit s n (k ∷ ks) ≡ words_on r limit n ks x
  unfolding words_from
  words_on_lem = ap (λ (y : Step). elim y [ move w s' ↦ w ∷ words_from r limit s' (suc n) ks | stop o ↦ [] ]) e ∙ same x
    where
      same : (y : Step) → (elim y [ move w s' ↦ w ∷ words_from r limit s' (suc n) ks | stop o ↦ [] ]) ≡ words_on r limit n ks y
      same (move w s') = refl
      same (stop o) = refl

-- where the tokens end
pub ended_over : {s : State} (n : ℕ) → Over s → ended s n ≡ accepted
unfolding ended
ended_over n after_root = refl
ended_over n after_closing = refl

pub not_accepted : (k p : ℕ) → refused k p ≡ accepted → ⊥
not_accepted k p e = let z : ◌≡◌ {A = ℕ} 0 1 = cc in omega arith

module _ (r : Bool) where
  -- a token that may stand is there
  there : (t : List ℕ) (limit n w : ℕ) (s s' : State) → MoveAt r t limit n s w s' → n < length t
  there t limit n w s s' m =
      elim (dec_lt n (length t)) [
        | yes h ↦ h
        | no h ↦ absurd (not_zero m (ap kind_of (get_or-eq_default t 0 (omega arith)) ∙ zero_kind))
      ]

  pub outcome_end : (t : List ℕ) (limit n : ℕ) (s : State) → length t ≤ n → outcome r limit s n (drop n t) ≡ ended s n
  unfolding outcome
  outcome_end t limit n s h = rw (drop_of_length-le t h)

  pub words_end : (t : List ℕ) (limit n : ℕ) (s : State) → length t ≤ n → words_from r limit s n (drop n t) ≡ []
  unfolding words_from
  words_end t limit n s h = rw (drop_of_length-le t h)

  pub outcome_nil : (limit n : ℕ) (s : State) → outcome r limit s n [] ≡ ended s n
  unfolding outcome
  outcome_nil limit n s = refl

  -- a run is read
  run_read : (t o : List ℕ) (limit : ℕ) {s : State} {n : ℕ} → length o ≡ length t → Run r t o limit s n
      → (outcome r limit s n (drop n t) ≡ accepted) × (words_from r limit s n (drop n t) ≡ drop n o)
  run_read t o limit {s} {n} l (over h e) = (
    outcome_end t limit n s (omega arith) ∙ ended_over n h,
    words_end t limit n s (omega arith) ∙ sym (drop_of_length-le o {i = n} (omega arith)),
  )
  run_read t o limit {s} {n} l (next {s' = s'} {w = w} m v y) =
      let h = there t limit n w s s' m in
      let q = run_read t o limit l y in
      let a = drop-cons t n 0 h in
      let b = drop-cons o n 0 (omega arith) in (
        ap (outcome r limit s n) a ∙ outcome_on_lem r limit s n (get_or t n 0) (drop (suc n) t) (move w s') (moves m) ∙ q.0,
        ap (words_from r limit s n) a ∙ words_on_lem r limit s n (get_or t n 0) (drop (suc n) t) (move w s') (moves m) ∙ ap (λ (x : List ℕ). w ∷ x) q.1
            ∙ ap (λ (x : ℕ). x ∷ drop (suc n) o) (sym v) ∙ sym b,
      )

  pub body_read : (limit : ℕ) (t o : List ℕ) → Reading (rule_of r) limit t o → (outcome r limit begin 0 t ≡ accepted) × (words_from r limit begin 0 t ≡ o)
  body_read limit t o y = run_read t o limit y.each (body_run r t o limit y.body refl)

  -- the state in which a body is over
  over_state : (t o : List ℕ) (limit n : ℕ) (s : State) → n ≡ length t → ended s n ≡ accepted → Run r t o limit s n
  unfolding ended
  over_state t o limit n begin h e = let z : ◌≡◌ {A = ℕ} 0 1 = cc in absurd (omega arith)
  over_state t o limit n root h e = let z : ◌≡◌ {A = ℕ} 0 1 = cc in absurd (omega arith)
  over_state t o limit n (tag c a w st) h e = let z : ◌≡◌ {A = ℕ} 0 1 = cc in absurd (omega arith)
  over_state t o limit n (inside []) h e = over after_root h
  over_state t o limit n (inside (w ∷ st)) h e = let z : ◌≡◌ {A = ℕ} 0 1 = cc in absurd (omega arith)
  over_state t o limit n done h e = over after_closing h
  over_state t o limit n (target w s) h e = let z : ◌≡◌ {A = ℕ} 0 1 = cc in absurd (omega arith)

  -- a token that was read, and the run after it
  module _ (t o : List ℕ) (limit n : ℕ) (s : State) (ks : List ℕ) where
    run_on : (x : Step) → Says r limit n (announces (get_or t n 0)) (kind_of (get_or t n 0)) s x → outcome_on r limit n ks x ≡ accepted → drop n o ≡ words_on r limit n ks x
        → n < length o
        → ((s' : State) → outcome r limit s' (suc n) ks ≡ accepted → drop (suc n) o ≡ words_from r limit s' (suc n) ks → Run r t o limit s' (suc n))
        → Run r t o limit s n
    run_on x (goes w s' m) e d h f =
        let c : get_or o n 0 ∷ drop (suc n) o ≡ w ∷ words_from r limit s' (suc n) ks = sym (drop-cons o n 0 h) ∙ d in
        next m (cc) (f s' e (cc))
    run_on x (wrong g) e d h f = absurd (not_accepted 13 n e)
    run_on x (deep w s' c g) e d h f = absurd (not_accepted 14 n e)
    run_on x (differs w s' c g) e d h f = absurd (not_accepted 20 n e)

  read_run : (t o : List ℕ) (limit : ℕ) (ks : List ℕ) (s : State) (n : ℕ) → length o ≡ length t → n + length ks ≡ length t → drop n t ≡ ks
      → outcome r limit s n ks ≡ accepted → drop n o ≡ words_from r limit s n ks → Run r t o limit s n
  read_run t o limit [] s n l c d e w = over_state t o limit n s (omega arith) (sym (outcome_nil limit n s) ∙ e)
  read_run t o limit (k ∷ ks) s n l c d e w =
      let h : n < length t = omega arith in
      let p : get_or t n 0 ∷ drop (suc n) t ≡ k ∷ ks = sym (drop-cons t n 0 h) ∙ d in
      let q : get_or t n 0 ≡ k = cc in
      let x = step r limit s n (get_or t n 0) in
      let y : step r limit s n k ≡ x = ap (step r limit s n) (sym q) in
      run_on t o limit n s ks x (says r limit n (announces (get_or t n 0)) (kind_of (get_or t n 0)) s)
      (sym (outcome_on_lem r limit s n k ks x y) ∙ e) (w ∙ words_on_lem r limit s n k ks x y) (omega arith)
      (λ s' f v. read_run t o limit ks s' (suc n) l (omega arith) (cc) f v)

  -- as many words as tokens, where all are accepted
  pub words_length : (limit : ℕ) (ks : List ℕ) (s : State) (n : ℕ) → outcome r limit s n ks ≡ accepted → length (words_from r limit s n ks) ≡ length ks
  unfolding words_from
  words_length limit [] s n e = refl
  words_length limit (k ∷ ks) s n e = ap length (words_on_lem r limit s n k ks (step r limit s n k) refl)
      ∙ longer (step r limit s n k) (says r limit n (announces k) (kind_of k) s) (sym (outcome_on_lem r limit s n k ks (step r limit s n k) refl) ∙ e) (λ s' f. words_length limit ks s' (suc n) f)
    where
      longer : (x : Step) → Says r limit n (announces k) (kind_of k) s x → outcome_on r limit n ks x ≡ accepted
          → ((s' : State) → outcome r limit s' (suc n) ks ≡ accepted → length (words_from r limit s' (suc n) ks) ≡ length ks)
          → length (words_on r limit n ks x) ≡ suc (length ks)
      longer x (goes w s' m) e f = ap suc (f s' e)
      longer x (wrong g) e f = absurd (not_accepted 13 n e)
      longer x (deep w s' c g) e f = absurd (not_accepted 14 n e)
      longer x (differs w s' c g) e f = absurd (not_accepted 20 n e)

  pub read_body : (limit : ℕ) (t : List ℕ) → outcome r limit begin 0 t ≡ accepted → Reading (rule_of r) limit t (words_from r limit begin 0 t)
  read_body limit t e =
      let l = words_length limit t begin 0 e in
      record { each = l; body = run_body r t (words_from r limit begin 0 t) limit (read_run t (words_from r limit begin 0 t) limit t begin 0 l (omega arith) refl e refl) }

  -- a body within a limit is one within a higher limit
  run_higher : (t o : List ℕ) (l m : ℕ) {s : State} {n : ℕ} → l ≤ m → Run r t o l s n → Run r t o m s n
  run_higher t o l m h (over g e) = over g e
  run_higher t o l m h (next k v y) = next (eased r r (λ x a. a) m h k) v (run_higher t o l m h y)

  pub higher_reading : (l m : ℕ) (t o : List ℕ) → l ≤ m → Reading (rule_of r) l t o → Reading (rule_of r) m t o
  higher_reading l m t o h y = record { each = y.each; body = run_body r t o m (run_higher t o l m h (body_run r t o l y.body refl)) }

wide_table : (l m : ℕ) (t o p : List ℕ) → Reading wide l t o → Reading wide m t p → o ≡ p
wide_table l m t o p x y =
    sym (body_read false (l + m) t o (higher_reading false l (l + m) t o (omega arith) x)).1
    ∙ (body_read false (l + m) t p (higher_reading false m (l + m) t p (omega arith) y)).1

-- A body has one reading only: any two owner tables of the same tokens are equal, whatever the rules and limits. So a body by the narrow
-- rule, which is one by the wide rule, has the same table there
pub one_table : (r q : Rule) (l m : ℕ) (t o p : List ℕ) → Reading r l t o → Reading q m t p → o ≡ p
one_table r q l m t o p x y = wide_table l m t o p (reading_wide t o r l x) (reading_wide t p q m y)
