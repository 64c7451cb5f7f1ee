-- What a walk has noted is kept: with one token more, with a body in the last token's values, and where the last token has ended.
-- Assumes nothing.
use mathlib.Core.Path.{◌≡◌, refl, sym, ap, ◌∙◌}
use mathlib.Core.List.{List, [], ◌∷◌, ◌++◌}
use Prim.Native.Nat.{ℕ, suc, ◌+◌, ◌*◌, ◌<◌}
use native.Mathlib.Omega.{arith}
use lib.ListN.{length, take, set, length-append}
use lib.Seq.{sets, take-suc-set}
use Rattle.tokens.specs.declared.Token.{Token}
use Rattle.sheet.specs.Sheet.{mark_of, marks_of}
use Rattle.nest.specs.Going.{Kept}
use Rattle.nest.specs.Nested.{Entry, Own, own, tokens_of, words_at, sheet_of, owners_of}
use Rattle.nest.specs.Pieces.{numbers_of, count_in}
use Rattle.nest.proofs.Stacks.{count_snoc, marks_snoc, numbers_snoc, sheet_token, sheet_ended, sheet_body, table_token, table_ended, table_body}

snoc_length : (d : List Own) (o : Own) → length (d ++ (o ∷ [])) ≡ length d + 1
snoc_length d o = length-append d (o ∷ []) ∙ omega arith

module _ (level first : ℕ) (sheet₀ table₀ : List ℕ) where
  pub kept_none : (marks numbers : List ℕ) → Kept level first sheet₀ table₀ [] first 0 marks numbers sheet₀ table₀
  kept_none marks numbers = record { depth = refl; many = omega arith; marked = refl; numbered = refl; words = refl; owners = refl }

  -- one token more
  pub kept_token : (d : List Own) (n k : ℕ) (marks numbers sheet table marks' numbers' sheet' : List ℕ) (t u : Token)
      → Kept level first sheet₀ table₀ d n k marks numbers sheet table → k < length marks → k < length numbers → mark_of u ≡ mark_of t
      → words_at level u ≡ words_at level t → marks' ≡ set marks k (mark_of t) → numbers' ≡ set numbers k n → sheet' ≡ sets sheet (n * 2) (words_at level t)
      → Kept level first sheet₀ table₀ (d ++ (own u [] ∷ [])) (n + 1) (k + 1) marks' numbers' sheet' table
  kept_token d n k marks numbers sheet table marks' numbers' sheet' t u h l m mk wd a b c =
      let s : k + 1 ≡ suc k = omega arith in
      record {
        depth = omega (arith, h.depth, snoc_length d (own u []));
        many = omega (arith, h.many, count_snoc d u []);
        marked =
            ap (take (k + 1)) a ∙ ap (λ (j : ℕ). take j (set marks k (mark_of t))) s ∙ take-suc-set marks k (mark_of t) l
            ∙ ap (λ (x : List ℕ). x ++ (mark_of t ∷ [])) h.marked ∙ ap (λ (x : ℕ). marks_of (tokens_of d) ++ (x ∷ [])) (sym mk) ∙ sym (marks_snoc d u []);
        numbered =
            ap (take (k + 1)) b ∙ ap (λ (j : ℕ). take j (set numbers k n)) s ∙ take-suc-set numbers k n m
            ∙ ap (λ (x : List ℕ). x ++ (n ∷ [])) h.numbered ∙ ap (λ (x : ℕ). numbers_of first d ++ (x ∷ [])) h.many ∙ sym (numbers_snoc d first u []);
        words = c ∙ ap (sets sheet (n * 2)) (sym wd) ∙ sheet_token level first sheet₀ sheet d n h.many u h.words;
        owners = table_token first table₀ table d u h.owners;
      }

  -- a body in the values of the last token
  pub kept_body : (d : List Own) (t : Token) (c l : List Entry) (n m k : ℕ) (marks numbers sheet table marks' numbers' sheet' table' : List ℕ)
      → Kept level first sheet₀ table₀ (d ++ (own t c ∷ [])) n k marks numbers sheet table → m ≡ n + length l → take k marks' ≡ take k marks
      → take k numbers' ≡ take k numbers → sheet' ≡ sets sheet (n * 2) (sheet_of l) → table' ≡ sets table n (owners_of l)
      → Kept level first sheet₀ table₀ (d ++ (own t (c ++ l) ∷ [])) m k marks' numbers' sheet' table'
  kept_body d t c l n m k marks numbers sheet table marks' numbers' sheet' table' h e a b p q =
      record {
        depth = omega (arith, h.depth, snoc_length d (own t c), snoc_length d (own t (c ++ l)));
        many = omega (arith, h.many, e, count_snoc d t c, count_snoc d t (c ++ l), length-append c l);
        marked = a ∙ h.marked ∙ marks_snoc d t c ∙ sym (marks_snoc d t (c ++ l));
        numbered = b ∙ h.numbered ∙ numbers_snoc d first t c ∙ sym (numbers_snoc d first t (c ++ l));
        words = p ∙ sheet_body level first sheet₀ sheet d t c l n h.many h.words;
        owners = q ∙ table_body first table₀ table d t c l n h.many h.owners;
      }

  -- the last token, an instance, has ended
  pub kept_ended : (d : List Own) (t u w : Token) (c : List Entry) (n k at : ℕ) (marks numbers sheet table sheet' : List ℕ)
      → Kept level first sheet₀ table₀ (d ++ (own t c ∷ [])) n k marks numbers sheet table → at ≡ first + count_in d → mark_of u ≡ mark_of t
      → words_at level u ≡ words_at level w → sheet' ≡ sets sheet (at * 2) (words_at level w)
      → Kept level first sheet₀ table₀ (d ++ (own u c ∷ [])) n k marks numbers sheet' table
  kept_ended d t u w c n k at marks numbers sheet table sheet' h e mk wd q =
      record {
        depth = omega (arith, h.depth, snoc_length d (own t c), snoc_length d (own u c));
        many = omega (arith, h.many, count_snoc d t c, count_snoc d u c);
        marked = h.marked ∙ marks_snoc d t c ∙ ap (λ (x : ℕ). marks_of (tokens_of d) ++ (x ∷ [])) (sym mk) ∙ sym (marks_snoc d u c);
        numbered = h.numbered ∙ numbers_snoc d first t c ∙ sym (numbers_snoc d first u c);
        words = q ∙ ap (sets sheet (at * 2)) (sym wd) ∙ sheet_ended level first sheet₀ sheet d at e t u c h.words;
        owners = table_ended first table₀ table d t u c h.owners;
      }
