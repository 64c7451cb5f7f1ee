-- Text that is put in a buffer, one part after another. Assumes nothing.
use mathlib.Core.Path.{◌≡◌, refl, sym, ap, ◌∙◌}
use mathlib.Core.List.{List, [], ◌∷◌, ◌++◌, append-nil, append_assoc}
use Prim.Native.Nat.{ℕ, suc, ◌+◌, ◌≤◌, ◌<◌}
use native.Mathlib.Omega.{arith}
use borrow.Author.Tests.{lt-ltb, le-ltb}
use lib.ListN.{length, get_or, drop, set}
use lib.Seq.{drop-cons, drop-length}
use Rattle.print.specs.Text.{Page, page, put, put_byte, Puts, each}

-- a byte where there is room, and one where there is none
pub byte_put : (lent : List ℕ) (at b : ℕ) → at < length lent → Puts (b ∷ []) lent at (set lent at b) (at + 1)
unfolding put
byte_put lent at b h = record { is = rw (lt-ltb at (length lent) h) }

pub byte_lost : (lent : List ℕ) (at b : ℕ) → length lent ≤ at → Puts (b ∷ []) lent at lent at
unfolding put
byte_lost lent at b h = record { is = rw (le-ltb at (length lent) h) }

put_append : (t u : List ℕ) (p : Page) → put (t ++ u) p ≡ put u (put t p)
unfolding put
put_append [] u p = refl
put_append (b ∷ t) u p = put_append t u (put_byte b p)

-- one text and then another
infixl 20 ◌▸◌
pub ◌▸◌ : {t u lent mid left : List ℕ} {at m end : ℕ} → Puts t lent at mid m → Puts u mid m left end → Puts (t ++ u) lent at left end
◌▸◌ {t} {u} {lent} {mid} {left} {at} e f = record { is = f.is ∙ ap (put u) e.is ∙ sym (put_append t u (page lent at)) }

-- nothing is put
pub put_none : {lent : List ℕ} {at : ℕ} → Puts [] lent at lent at
unfolding put
put_none = record { is = refl }

-- a loop has put some of a text: the rest, put behind it, makes the whole
pub record Left (rest out : List ℕ) (end : ℕ) (whole lent : List ℕ) (at : ℕ) : Type 0 where
  pub is : put rest (page out end) ≡ put whole (page lent at)

pub nothing_yet : {whole lent : List ℕ} {at : ℕ} → Left whole lent at whole lent at
nothing_yet = record { is = refl }

-- a text, byte by byte
module _ (t : List ℕ) (i : ℕ) {out lent : List ℕ} {end at : ℕ} where
  pub text_next : {next : List ℕ} {m : ℕ} → i < length t → Puts (get_or t i 0 ∷ []) out end next m → Left (drop i t) out end t lent at
      → Left (drop (i + 1) t) next m t lent at
  unfolding put
  text_next {next} {m} h e w =
      let n : i + 1 ≡ suc i = omega arith in
      record {
        is =
            ap (λ (k : ℕ). put (drop k t) (page next m)) n ∙ ap (put (drop (suc i) t)) e.is
            ∙ sym (ap (λ (l : List ℕ). put l (page out end)) (drop-cons t i 0 h)) ∙ w.is;
      }

  pub text_all : i ≡ length t → Left (drop i t) out end t lent at → Puts t lent at out end
  unfolding put
  text_all h w = record { is = sym (ap (λ (l : List ℕ). put l (page out end)) (ap (λ (k : ℕ). drop k t) h ∙ drop-length t)) ∙ w.is }

-- what each member of a list is written as
module _ {A : Type 0} (f : A → List ℕ) (xs : List A) (i : ℕ) {out lent : List ℕ} {end at : ℕ} where
  pub each_next : {x : A} {next : List ℕ} {m : ℕ} → i < length xs → x ≡ get_or xs i x → Puts (f x) out end next m
      → Left (each f (drop i xs)) out end (each f xs) lent at → Left (each f (drop (i + 1) xs)) next m (each f xs) lent at
  unfolding each
  each_next {x} {next} {m} h is e w =
      let n : i + 1 ≡ suc i = omega arith in
      let c : drop i xs ≡ x ∷ drop (suc i) xs = drop-cons xs i x h ∙ ap (λ (y : A). y ∷ drop (suc i) xs) (sym is) in
      record {
        is =
            ap (λ (k : ℕ). put (each f (drop k xs)) (page next m)) n ∙ ap (put (each f (drop (suc i) xs))) e.is
            ∙ sym (put_append (f x) (each f (drop (suc i) xs)) (page out end))
            ∙ sym (ap (λ (l : List A). put (each f l) (page out end)) c) ∙ w.is;
      }

  pub each_all : i ≡ length xs → Left (each f (drop i xs)) out end (each f xs) lent at → Puts (each f xs) lent at out end
  unfolding put each
  each_all h w = record { is = sym (ap (λ (l : List A). put (each f l) (page out end)) (ap (λ (k : ℕ). drop k xs) h ∙ drop-length xs)) ∙ w.is }

-- the same text under another name
pub put_as : {t u lent left : List ℕ} {at end : ℕ} → t ≡ u → Puts t lent at left end → Puts u lent at left end
put_as {lent = lent} {at = at} e h = record { is = h.is ∙ ap (λ (l : List ℕ). put l (page lent at)) e }

-- a byte that is named in another way
pub byte_as : {a b : ℕ} {lent left : List ℕ} {at end : ℕ} → a ≡ b → Puts (a ∷ []) lent at left end → Puts (b ∷ []) lent at left end
byte_as e h = put_as (ap (λ (x : ℕ). x ∷ []) e) h

-- one member more of a list
each_append : {A : Type 0} (f : A → List ℕ) (xs ys : List A) → each f (xs ++ ys) ≡ each f xs ++ each f ys
unfolding each
each_append f [] ys = refl
each_append f (a ∷ xs) ys = ap (λ (l : List ℕ). f a ++ l) (each_append f xs ys) ∙ sym (append_assoc (f a) (each f xs) (each f ys))

pub each_more : {A : Type 0} (f : A → List ℕ) (xs : List A) (a : A) → each f xs ++ f a ≡ each f (xs ++ (a ∷ []))
unfolding each
each_more f xs a = sym (each_append f xs (a ∷ []) ∙ ap (λ (l : List ℕ). each f xs ++ l) (append-nil (f a)))
