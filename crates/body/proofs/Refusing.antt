-- The reader's refusals say what the grammar says: 13, 14, 20 and 15 as specs/Verdict.antt has them. Assumes nothing.
use mathlib.Core.Path.{◌≡◌, refl, sym, ap, subst, ◌∙◌}
use mathlib.Core.Bool.{Bool, true, false}
use mathlib.Core.List.{List, [], ◌∷◌, ◌++◌, append-nil, append_assoc}
use Prim.Native.Nat.{ℕ, zero, suc, ◌+◌, ◌≤◌, ◌<◌}
use native.Mathlib.Omega.{arith}
use lib.ListN.{length, get_or, take, drop}
use lib.Seq.{take_all, take-suc}
use Rattle.body.specs.Grammar.{wide, narrow, announces, kind_of}
use Rattle.body.specs.Verdict.{Begins, NoBody, TooDeep, Disagrees, Unfinished, Refuses, no_body, too_deep, disagreeing, unfinished_body}
use Rattle.body.specs.Reader.{State, begin, root, tag, inside, done, target, Out, accepted, refused, Step, move, stop, rule_of, step, ended, outcome, words_from}
use Rattle.body.proofs.Moves.{at_first, after_pair, Move, m_instance, m_attribute, m_empty, m_close, m_data, Says, goes, wrong, deep, differs, says, moves, eased, if_always, if_narrow, if_some, depth, shallow}
use Rattle.body.proofs.Runs.{after_root, after_closing}
use Rattle.body.proofs.Agree.{outcome_on, outcome_on_lem, outcome_nil, ended_over, not_accepted, body_read, read_body, higher_reading}

-- tokens that finish a body: every open tag and element is closed, and an announced attribute comes
unfoldable close_all : List ℕ → List ℕ
close_all [] = []
close_all (w ∷ st) = 5 ∷ close_all st

unfoldable closing : State → List ℕ
closing begin = 1 ∷ []
closing root = 1 ∷ []
closing (tag true a w st) = 7 ∷ 4 ∷ close_all st
closing (tag false a w st) = 4 ∷ close_all st
closing (inside st) = close_all st
closing done = []
closing (target w s) = 10 ∷ closing s

module _ (r : Bool) (limit : ℕ) where
  all_closed : (st : List ℕ) (n : ℕ) → outcome r limit (inside st) n (close_all st) ≡ accepted
  unfolding close_all kind_of
  all_closed [] n = outcome_nil r limit n (inside []) ∙ ended_over n after_root
  all_closed (w ∷ st) n =
      outcome_on_lem r limit (inside (w ∷ st)) n 5 (close_all st) (move w (inside st)) (moves (m_close refl)) ∙ all_closed st (suc n)

  over_next : (n : ℕ) → outcome r limit (inside []) n [] ≡ accepted
  over_next n = outcome_nil r limit n (inside []) ∙ ended_over n after_root

  -- in every state some tokens finish the body
  finish : (s : State) (n : ℕ) → outcome r limit s n (closing s) ≡ accepted
  unfolding closing kind_of
  finish begin n = outcome_on_lem r limit begin n 1 [] (move 0 (inside [])) (moves (m_instance at_first refl)) ∙ over_next (suc n)
  finish root n = outcome_on_lem r limit root n 1 [] (move 0 (inside [])) (moves (m_instance after_pair refl)) ∙ over_next (suc n)
  finish (tag true a w st) n =
      outcome_on_lem r limit (tag true a w st) n 7 (4 ∷ close_all st) (move w (tag true (suc n) w st)) (moves (m_attribute refl (if_always r)))
      ∙ outcome_on_lem r limit (tag true (suc n) w st) (suc n) 4 (close_all st) (move w (inside st)) (moves (m_empty refl (if_some r true (suc n) (omega arith))))
      ∙ all_closed st (suc (suc n))
  finish (tag false a w st) n =
      outcome_on_lem r limit (tag false a w st) n 4 (close_all st) (move w (inside st)) (moves (m_empty refl (if_always r))) ∙ all_closed st (suc n)
  finish (inside st) n = all_closed st n
  finish done n = outcome_nil r limit n done ∙ ended_over n after_closing
  finish (target w s) n = outcome_on_lem r limit (target w s) n 10 (closing s) (move w s) (moves (m_data refl)) ∙ finish s (suc n)

-- token `read` of a list, at its place
abbrev MoveOf : Bool → ℕ → List ℕ → ℕ → ℕ → State → ℕ → State → Type 0
MoveOf r limit ks read place s w s' = Move r limit place (announces (get_or ks read 0)) (kind_of (get_or ks read 0)) s w s'

-- why the reader refuses, `read` tokens on
data Why (limit : ℕ) (ks : List ℕ) (read : ℕ) (s : State) (place : ℕ) : ℕ → Type 0 where
  is_wrong : read < length ks → ((l w : ℕ) (s' : State) → MoveOf false l ks read place s w s' → ⊥) → Why limit ks read s place 13
  is_deep : read < length ks → kind_of (get_or ks read 0) ≡ 2 → (w : ℕ) (s' : State) → MoveOf true (suc limit) ks read place s w s'
      → step true limit s place (get_or ks read 0) ≡ stop (refused 14 place) → Why limit ks read s place 14
  is_differing : read < length ks → (w : ℕ) (s' : State) → ((l : ℕ) → MoveOf false l ks read place s w s')
      → ((l w : ℕ) (s' : State) → MoveOf true l ks read place s w s' → ⊥) → Why limit ks read s place 20
  is_ended : read ≡ length ks → ended s place ≡ refused 15 place → Why limit ks read s place 15

why_on : (limit k : ℕ) (ks : List ℕ) (read : ℕ) (s : State) (place : ℕ) {number : ℕ} → Why limit ks read s place number → Why limit (k ∷ ks) (suc read) s place number
why_on limit k ks read s place (is_wrong h f) = is_wrong (omega arith) f
why_on limit k ks read s place (is_deep h e w s' m f) = is_deep (omega arith) e w s' m f
why_on limit k ks read s place (is_differing h w s' m f) = is_differing (omega arith) w s' m f
why_on limit k ks read s place (is_ended h e) = is_ended (omega arith) e

-- where it refuses: the state after the tokens before, which the wide rule and any higher limit come to as well, and why
record Told (limit : ℕ) (s : State) (n : ℕ) (ks : List ℕ) (number place : ℕ) : Type 0 where
  pub read : ℕ
  pub state : State
  pub at : place ≡ n + read
  pub same : (r : Bool) (l : ℕ) → limit ≤ l → (others : List ℕ) → outcome r l s n (take read ks ++ others) ≡ outcome r l state place others
  pub why : Why limit ks read state place number

moved : (limit : ℕ) (s : State) (n : ℕ) (ks : List ℕ) (k p number place : ℕ) → refused k p ≡ refused number place → Told limit s n ks k p → Told limit s n ks number place
moved limit s n ks k p number place e r =
    let a : k ≡ number = cc in
    let b : p ≡ place = cc in
    subst (λ (x : ℕ). Told limit s n ks number x) b (subst (λ (x : ℕ). Told limit s n ks x p) a r)

here : (limit : ℕ) (s : State) (n : ℕ) (ks : List ℕ) (number : ℕ) → Why limit ks 0 s n number → Told limit s n ks number n
here limit s n ks number y = record { read = 0; state = s; at = omega arith; same = λ r l h others. refl; why = y }

-- a refusal where the tokens end is 15
ended_told : (limit : ℕ) (s : State) (n number place : ℕ) → ended s n ≡ refused number place → Told limit s n [] number place
unfolding ended
ended_told limit begin n number place e = moved limit begin n [] 15 n number place e (here limit begin n [] 15 (is_ended refl refl))
ended_told limit root n number place e = moved limit root n [] 15 n number place e (here limit root n [] 15 (is_ended refl refl))
ended_told limit (tag c a w st) n number place e =
    moved limit (tag c a w st) n [] 15 n number place e (here limit (tag c a w st) n [] 15 (is_ended refl refl))
ended_told limit (inside []) n number place e = let z : ◌≡◌ {A = ℕ} 0 1 = cc in absurd (omega arith)
ended_told limit (inside (w ∷ st)) n number place e =
    moved limit (inside (w ∷ st)) n [] 15 n number place e (here limit (inside (w ∷ st)) n [] 15 (is_ended refl refl))
ended_told limit done n number place e = let z : ◌≡◌ {A = ℕ} 0 1 = cc in absurd (omega arith)
ended_told limit (target w s) n number place e =
    moved limit (target w s) n [] 15 n number place e (here limit (target w s) n [] 15 (is_ended refl refl))

module _ (limit : ℕ) (s : State) (n k : ℕ) (ks : List ℕ) (number place : ℕ) (d : depth s ≤ limit) where
  told_on : (x : Step) → Says true limit n (announces k) (kind_of k) s x → step true limit s n k ≡ x → outcome_on true limit n ks x ≡ refused number place
      → ((s' : State) → depth s' ≤ limit → outcome true limit s' (suc n) ks ≡ refused number place → Told limit s' (suc n) ks number place)
      → Told limit s n (k ∷ ks) number place
  told_on x (goes w s' m) c e f =
      let y = f s' (shallow m d) e in
      record {
        read = suc y.read;
        state = y.state;
        at = omega (arith, y.at);
        same = λ r l h others. outcome_on_lem r l s n k (take y.read ks ++ others) (move w s') (moves (eased true r (if_narrow r) l h m)) ∙ y.same r l h others;
        why = why_on limit k ks y.read y.state place y.why;
      }
  told_on x (wrong g) c e f = moved limit s n (k ∷ ks) 13 n number place e (here limit s n (k ∷ ks) 13 (is_wrong (omega arith) g))
  told_on x (deep w s' b g) c e f = moved limit s n (k ∷ ks) 14 n number place e (here limit s n (k ∷ ks) 14 (is_deep (omega arith) b w s' (g d) c))
  told_on x (differs w s' m g) c e f = moved limit s n (k ∷ ks) 20 n number place e (here limit s n (k ∷ ks) 20 (is_differing (omega arith) w s' m g))

told : (limit : ℕ) (ks : List ℕ) (s : State) (n number place : ℕ) → depth s ≤ limit → outcome true limit s n ks ≡ refused number place → Told limit s n ks number place
told limit [] s n number place d e = ended_told limit s n number place (sym (outcome_nil true limit n s) ∙ e)
told limit (k ∷ ks) s n number place d e =
    told_on limit s n k ks number place d (step true limit s n k) (says true limit n (announces k) (kind_of k) s) refl
    (sym (outcome_on_lem true limit s n k ks (step true limit s n k) refl) ∙ e) (λ s' h f. told limit ks s' (suc n) number place h f)

-- a token without a move by a rule ends what that rule reads, with any limit
stuck : (r : Bool) (l place k : ℕ) (s : State) (others : List ℕ) → ((l w : ℕ) (s' : State) → Move r l place (announces k) (kind_of k) s w s' → ⊥)
    → outcome r l s place (k ∷ others) ≡ accepted → ⊥
stuck r l place k s others g e =
    by_says (step r l s place k) (says r l place (announces k) (kind_of k) s) (sym (outcome_on_lem r l s place k others (step r l s place k) refl) ∙ e)
  where
    by_says : (x : Step) → Says r l place (announces k) (kind_of k) s x → outcome_on r l place others x ≡ accepted → ⊥
    by_says x (goes w s' m) e = g l w s' m
    by_says x (wrong f) e = not_accepted 13 place e
    by_says x (deep w s' c f) e = not_accepted 14 place e
    by_says x (differs w s' c f) e = not_accepted 20 place e

-- tokens that go on to a state begin a body
pub begun : (r : Bool) (l : ℕ) (ks : List ℕ) (s : State) (place : ℕ) → ((others : List ℕ) → outcome r l begin 0 (ks ++ others) ≡ outcome r l s place others)
    → Begins (rule_of r) l ks
begun r l ks s place f =
    record {
      others = closing s;
      words = words_from r l begin 0 (ks ++ closing s);
      reading = read_body r l (ks ++ closing s) (f (closing s) ∙ finish r l s place);
    }

-- what a body of these tokens would be to the reader
pub accepts : (r : Bool) (l m : ℕ) → l ≤ m → (ks : List ℕ) → Begins (rule_of r) l ks → (others : List ℕ) × (outcome r m begin 0 (ks ++ others) ≡ accepted)
accepts r l m h ks b = (b.others, (body_read r m (ks ++ b.others) b.words (higher_reading r l m (ks ++ b.others) b.words h b.reading)).0)

-- what the grammar says of tokens that the reader refuses
module _ (t : List ℕ) (number place : ℕ) (y : Told 64 begin 0 t number place) where
  -- a body within 64 levels begins with the tokens before
  begins : Begins narrow 64 (take y.read t)
  begins = begun true 64 (take y.read t) y.state place (y.same true 64 (omega arith))

  -- the tokens through the refused one, and others
  through : y.read < length t → (r : Bool) (l : ℕ) → 64 ≤ l → (others : List ℕ)
      → outcome r l begin 0 (take (suc y.read) t ++ others) ≡ outcome r l y.state place (get_or t y.read 0 ∷ others)
  through h r l g others =
      ap (λ (x : List ℕ). outcome r l begin 0 (x ++ others)) (take-suc t y.read 0 h)
      ∙ ap (outcome r l begin 0) (append_assoc (take y.read t) (get_or t y.read 0 ∷ []) others) ∙ y.same r l g (get_or t y.read 0 ∷ others)

  -- where the refused token has a move by a rule, a body by that rule begins with the tokens through it; where it has none, no body does
  moves_on : y.read < length t → (r : Bool) (l : ℕ) → 64 ≤ l → (w : ℕ) (s' : State) → MoveOf r l t y.read place y.state w s'
      → Begins (rule_of r) l (take (suc y.read) t)
  moves_on h r l g w s' m =
      begun r l (take (suc y.read) t) s' (suc place)
      (λ others. through h r l g others ∙ outcome_on_lem r l y.state place (get_or t y.read 0) others (move w s') (moves m))

  none_on : y.read < length t → (r : Bool) → ((l w : ℕ) (s' : State) → MoveOf r l t y.read place y.state w s' → ⊥)
      → (l : ℕ) → Begins (rule_of r) l (take (suc y.read) t) → ⊥
  none_on h r g l b =
      let a = accepts r l (l + 64) (omega arith) (take (suc y.read) t) b in
      stuck r (l + 64) place (get_or t y.read 0) y.state a.0 g (sym (through h r (l + 64) (omega arith) a.0) ∙ a.1)

  refuses_why : {k : ℕ} → Why 64 t y.read y.state place k → Refuses t k y.read
  refuses_why (is_wrong h g) = no_body y.read (record { there = h; before = begins; none = none_on h false g })
  refuses_why (is_deep h e w s' m f) =
      too_deep y.read (record {
        there = h;
        before = begins;
        opens = e;
        deeper = moves_on h true 65 (omega arith) w s' m;
        none = λ b.
            let a = accepts true 64 64 (omega arith) (take (suc y.read) t) b in
            not_accepted 14 place
            (sym (outcome_on_lem true 64 y.state place (get_or t y.read 0) a.0 (stop (refused 14 place)) f) ∙ sym (through h true 64 (omega arith) a.0) ∙ a.1);
      })
  refuses_why (is_differing h w s' m g) =
      disagreeing y.read (record {
        there = h;
        before = begins;
        levels = 64;
        goes_on = moves_on h false 64 (omega arith) w s' (m 64);
        none = none_on h true g;
      })
  refuses_why (is_ended h e) =
      let all : take y.read t ≡ t = take_all y.read t (omega arith) in
      subst (Refuses t 15) (sym h)
      (unfinished_body (record {
        none = λ l words x.
            let a = body_read true (l + 64) t words (higher_reading true l (l + 64) t words (omega arith) x) in
            let b = ap (outcome true (l + 64) begin 0) (sym (append-nil t) ∙ ap (λ (z : List ℕ). z ++ []) (sym all)) in
            not_accepted 15 place (sym e ∙ sym (outcome_nil true (l + 64) place y.state) ∙ sym (y.same true (l + 64) (omega arith) []) ∙ sym b ∙ a.0);
        more = subst (Begins narrow 64) all begins;
      }))

pub refuses_right : (t : List ℕ) (number place : ℕ) → outcome true 64 begin 0 t ≡ refused number place → Refuses t number place
unfolding depth
refuses_right t number place e =
    let y = told 64 t begin 0 number place (omega arith) e in
    let p : y.read ≡ place = omega (arith, y.at) in
    subst (Refuses t number) p (refuses_why t number place y y.why)
