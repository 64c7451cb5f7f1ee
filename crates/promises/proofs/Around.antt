-- What may stand before and after the root, whatever follows: document 02, P4, over all continuations. Assumes nothing.
use mathlib.Core.Path.{◌≡◌, refl, sym, ap, ◌∙◌}
use mathlib.Core.Bool.{true}
use mathlib.Core.List.{List, [], ◌∷◌, ◌++◌}
use Prim.Native.Nat.{ℕ, suc, ◌+◌}
use native.Mathlib.Omega.{arith}
use borrow.Author.Tests.{ne_eqb}
use lib.ListN.{length}
use Rattle.cursor.specs.Refusals.{no_body_number}
use Rattle.tokens.specs.Token.{instance_kind, open_kind, pi_target_kind, pi_data_kind}
use Rattle.body.specs.Verdict.{Refuses}
use Rattle.body.specs.Grammar.{narrow, announces, kind_of, Reading}
use Rattle.body.specs.Reader.{State, begin, root, tag, inside, done, target, Out, accepted, refused, Step, move, stop, turn, step, ended, outcome}
use Rattle.body.proofs.Moves.{Says, goes, wrong, deep, differs, says}
use Rattle.body.proofs.Agree.{outcome_on, outcome_on_lem, not_accepted, body_read}
use Rattle.body.proofs.Refusing.{refuses_right}

-- after a leading target only its data: 13 at any other token
pub after_leading_target : (k : ℕ) (rest : List ℕ) → (kind_of k ≡ pi_data_kind → ⊥) → Refuses (pi_target_kind ∷ k ∷ rest) no_body_number 1
unfolding kind_of turn outcome
after_leading_target k rest a =
    let e : step true 64 (target 0 root) 1 k ≡ stop (refused no_body_number 1) = rw (ne_eqb (kind_of k) pi_data_kind a) in
    refuses_right (pi_target_kind ∷ k ∷ rest) no_body_number 1 (outcome_on_lem true 64 (target 0 root) 1 k rest (stop (refused no_body_number 1)) e)

-- after a leading pair only an instance or an open token
pub after_leading_pair : (k : ℕ) (rest : List ℕ) → (kind_of k ≡ open_kind → ⊥) → (kind_of k ≡ instance_kind → ⊥)
    → Refuses (pi_target_kind ∷ pi_data_kind ∷ k ∷ rest) no_body_number 2
unfolding kind_of turn outcome
after_leading_pair k rest a b =
    let e : step true 64 root 2 k ≡ stop (refused no_body_number 2) = rw (ne_eqb (kind_of k) open_kind a, ne_eqb (kind_of k) instance_kind b) in
    refuses_right (pi_target_kind ∷ pi_data_kind ∷ k ∷ rest) no_body_number 2 (outcome_on_lem true 64 root 2 k rest (stop (refused no_body_number 2)) e)

-- "two leading pairs are refused 13 at the second target"
pub second_pair : (rest : List ℕ) → Refuses (pi_target_kind ∷ pi_data_kind ∷ pi_target_kind ∷ pi_data_kind ∷ rest) no_body_number 2
unfolding kind_of turn outcome
second_pair rest = refuses_right (pi_target_kind ∷ pi_data_kind ∷ pi_target_kind ∷ pi_data_kind ∷ rest) no_body_number 2 refl

-- where a body is over and a pair may follow, nothing follows the pair
abbrev Ended : ℕ → List ℕ → State → ℕ → ℕ → List ℕ → Type 0
Ended l t s n k rest =
    outcome true l s n t ≡ accepted → outcome true l s n (t ++ pi_target_kind ∷ pi_data_kind ∷ []) ≡ accepted
    → outcome true l s n (t ++ pi_target_kind ∷ pi_data_kind ∷ k ∷ rest) ≡ refused no_body_number (n + length t + 2)

module _ (l n x k : ℕ) (s : State) (t rest : List ℕ) where
  one_on : (y : Step) → Says true l n (announces x) (kind_of x) s y → step true l s n x ≡ y → outcome_on true l n t y ≡ accepted
      → outcome_on true l n (t ++ pi_target_kind ∷ pi_data_kind ∷ []) y ≡ accepted → ((s' : State) → Ended l t s' (suc n) k rest)
      → outcome true l s n (x ∷ t ++ pi_target_kind ∷ pi_data_kind ∷ k ∷ rest) ≡ refused no_body_number (n + suc (length t) + 2)
  one_on y (goes w s' m) c e f g =
      let z : suc n + length t + 2 ≡ n + suc (length t) + 2 = omega arith in
      outcome_on_lem true l s n x (t ++ pi_target_kind ∷ pi_data_kind ∷ k ∷ rest) (move w s') c ∙ g s' e f ∙ ap (refused no_body_number) z
  one_on y (wrong h) c e f g = absurd (not_accepted 13 n e)
  one_on y (deep w s' b h) c e f g = absurd (not_accepted 14 n e)
  one_on y (differs w s' b h) c e f g = absurd (not_accepted 20 n e)

after_pair : (l : ℕ) (t : List ℕ) (s : State) (n k : ℕ) (rest : List ℕ) → Ended l t s n k rest
unfolding kind_of turn ended outcome
after_pair l [] begin n k rest e f = absurd (not_accepted 15 n e)
after_pair l [] root n k rest e f = absurd (not_accepted 15 n e)
after_pair l [] (tag c a w st) n k rest e f = absurd (not_accepted 15 n e)
after_pair l [] (inside []) n k rest e f =
    let z : suc (suc n) ≡ n + 0 + 2 = omega arith in
    ap (refused no_body_number) z
after_pair l [] (inside (w ∷ st)) n k rest e f = absurd (not_accepted 15 n e)
after_pair l [] done n k rest e f = absurd (not_accepted 13 n f)
after_pair l [] (target w s) n k rest e f = absurd (not_accepted 15 n e)
after_pair l (x ∷ t) s n k rest e f =
    one_on l n x k s t rest (step true l s n x) (says true l n (announces x) (kind_of x) s) refl (sym (outcome_on_lem true l s n x t (step true l s n x) refl) ∙ e)
    (sym (outcome_on_lem true l s n x (t ++ pi_target_kind ∷ pi_data_kind ∷ []) (step true l s n x) refl) ∙ f) (λ s'. after_pair l t s' (suc n) k rest)

-- "then at most one pair": a body, and with a pair behind it a body again; then any token after that is 13
pub after_closing_pair : (t u v : List ℕ) → Reading narrow 64 t u → Reading narrow 64 (t ++ pi_target_kind ∷ pi_data_kind ∷ []) v → (k : ℕ) (rest : List ℕ)
    → Refuses (t ++ pi_target_kind ∷ pi_data_kind ∷ k ∷ rest) no_body_number (length t + 2)
after_closing_pair t u v r q k rest =
    let z : 0 + length t + 2 ≡ length t + 2 = omega arith in
    refuses_right (t ++ pi_target_kind ∷ pi_data_kind ∷ k ∷ rest) no_body_number (length t + 2)
    (after_pair 64 t begin 0 k rest (body_read true 64 t u r).0 (body_read true 64 (t ++ pi_target_kind ∷ pi_data_kind ∷ []) v q).0 ∙ ap (refused no_body_number) z)
