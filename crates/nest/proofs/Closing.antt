-- A window whose walk has ended, as its definition says. Assumes nothing.
use mathlib.Core.Path.{◌≡◌, refl, sym, ap, subst, ◌∙◌}
use mathlib.Core.Bool.{Bool, true, false, ◌&&◌}
use mathlib.Core.List.{List, [], ◌∷◌, ◌++◌, map}
use mathlib.Core.Logic.{◌⊎◌, inl, inr}
use Prim.Native.Nat.{ℕ, zero, suc, ◌+◌, ◌-◌, ◌*◌, ◌≤◌, ◌<◌}
use native.Mathlib.Omega.{arith}
use borrow.Author.Tests.{ltb-false}
use lib.Dec.{ltb}
use lib.ListN.{length, get_or, take, length-map}
use lib.Seq.{sets, get_or-take}
use Rattle.cursor.specs.Answer.{Answer, given, refused, Result, gives, refuses, pick}
use Rattle.sheet.specs.Sheet.{marks_of}
use Rattle.body.specs.Reader.{verdict_on}
use Rattle.body.proofs.Answers.{verdict_right}
use Rattle.nest.specs.Going.{Kept}
use Rattle.nest.specs.Nested.{past_value, ninth_level, deepest_body, Entry, Own, inner_flags, renumbered, entries_of, tokens_of, numbers_from, by_numbers, closed_at, body_at, sheet_of, owners_of}
use Rattle.nest.specs.Pieces.{full, numbers_of, count_in, sheet_own, table_own, set_at, numbers_to, verdict_answer, VerdictLaid, Numbered, Laid, WalkRead, window_by}
use Rattle.nest.proofs.Judging.{each_word}
use Rattle.nest.proofs.Stacks.{few, numbers_all, numbers_length, numbers_below, numbers_alone, sheet_entries, entries_length, table_entries}

-- a body with levels left is a window; with none, it is refused
pub body_is : (s : List ℕ) (inline : Bool) (left n at size : ℕ) → 0 < left
    → body_at verdict_on s inline left n at size ≡ window_by s (left - 1) true (inner_flags inline) n at (at + size)
unfolding body_at
body_is s inline zero n at size h = absurd (omega arith)
body_is s inline (suc left) n at size h =
    let e : left ≡ suc left - 1 = omega arith in
    ap (λ (l : ℕ). window_by s l true (inner_flags inline) n at (at + size)) e

opened : (s : List ℕ) (inline : Bool) (n at size : ℕ) → body_at verdict_on s inline 0 n at size ≡ refuses ninth_level at
unfolding body_at
opened s inline n at size = refl

pub body_deep : (s : List ℕ) (inline : Bool) (left : ℕ) → left ≡ 0 → (n at size : ℕ) → body_at verdict_on s inline left n at size ≡ refuses ninth_level at
body_deep s inline left e n at size = ap (λ (l : ℕ). body_at verdict_on s inline l n at size) e ∙ opened s inline n at size

pub never : (b : Bool) → b ≡ true → b ≡ false → ⊥
never b h e = let y : ◌≡◌ {A = ℕ} 0 1 = ap (λ (b : Bool). pick b 1 0) (sym e ∙ h) in omega arith

second : (a b : Bool) → (a && b) ≡ false → a ≡ true → b ≡ false
second true b e h = e
second false b e h = absurd (never false h refl)

-- the numbers on the stack are below the next one, and where no others are numbered, each is its place
pub kept_numbered : (level first : ℕ) (sheet₀ table₀ : List ℕ) (d : List Own) (n k : ℕ) (marks numbers sheet table : List ℕ)
    → Kept level first sheet₀ table₀ d n k marks numbers sheet table → n ≤ 65536 → Numbered numbers k n
kept_numbered level first sheet₀ table₀ d n k marks numbers sheet table h b = (
  b,
  λ i l.
      let e : get_or numbers i 0 ≡ get_or (numbers_of first d) i 0 = sym (get_or-take k numbers i 0 l) ∙ ap (λ (x : List ℕ). get_or x i 0) h.numbered in
      omega (arith, e, numbers_below d first i (omega (arith, l, h.depth)), h.many),
  λ q i l.
      let e : get_or numbers i 0 ≡ get_or (numbers_of first d) i 0 = sym (get_or-take k numbers i 0 l) ∙ ap (λ (x : List ℕ). get_or x i 0) h.numbered in
      let c : count_in d ≡ length d = omega (arith, q, few d, h.many, h.depth) in
      omega (arith, e, q, c, few d, numbers_alone d first i c (omega (arith, l, h.depth)), h.many, h.depth),
)

module _ (s : List ℕ) (room level first : ℕ) (inside : Bool) (start end at : ℕ) (whole : Answer (List Own)) (d : List Own) (r : whole ≡ given d at)
    (n k : ℕ) (low : n ≤ at) (short : n ≤ length s) (marks numbers sheet₀ sheet table₀ table table' : List ℕ)
    (h : Kept level first sheet₀ table₀ d n k marks numbers sheet table) (o : Result ℕ) where
  abbrev X : Result (List Entry)
  X = closed_at verdict_on level inside first start end whole

  abbrev b : Bool
  b = inside && ltb end at

  ends : X ≡ pick b (refuses past_value start) (by_numbers level (numbers_from first d) d (verdict_on (marks_of (tokens_of d))))
  ends = ap (closed_at verdict_on level inside first start end) r

  numbers_same : numbers_to k n numbers ≡ numbers_from first d
  numbers_same =
      ap (λ (x : List ℕ). x ++ (n ∷ [])) h.numbered ∙ ap (λ (x : ℕ). numbers_of first d ++ (x ∷ [])) h.many ∙ sym (numbers_all d first)

  judge_same : by_numbers level (numbers_from first d) d (verdict_on (marks_of (tokens_of d))) ≡ by_numbers level (numbers_to k n numbers) d (verdict_on (take k marks))
  judge_same =
      ap (λ (x : List ℕ). by_numbers level x d (verdict_on (marks_of (tokens_of d)))) (sym numbers_same)
      ∙ ap (λ (x : List ℕ). by_numbers level (numbers_to k n numbers) d (verdict_on x)) (sym h.marked)

  abbrev Answer-is : Result ℕ → Type 0
  Answer-is = WalkRead s room X first inside end sheet₀ sheet table₀ table'

  by_verdict : (v : Result (List ℕ)) → verdict_on (take k marks) ≡ v → b ≡ false → X ≡ by_numbers level (numbers_to k n numbers) d v
      → VerdictLaid (take k numbers) (numbers_to k n numbers) v table table' → Answer-is (verdict_answer n (numbers_to k n numbers) v)
  by_verdict (gives words) e f x t =
      let w = map (renumbered (numbers_to k n numbers)) words in
      let c : length words ≡ length d =
      each_word (take k marks) (verdict_right (take k marks)) words e ∙ ap length h.marked ∙ length-map (tokens_of d) _ ∙ length-map d _ in
      let m : length w ≡ length d = length-map words (renumbered (numbers_to k n numbers)) ∙ c in (
        record {
          entries = entries_of level w d;
          holds = x;
          count = omega (arith, h.many, entries_length level w d m);
          words = h.words ∙ ap (sets sheet₀ (first * 2)) (sym (sheet_entries level w d m));
          owners =
              t ∙ ap (λ (y : List ℕ). set_at y w table) h.numbered ∙ ap (set_at (numbers_of first d) w) h.owners ∙ table_entries level w d first table₀ m;
        },
        λ i. omega (arith, low, ltb-false end at (second inside (ltb end at) f i)),
        short,
      )
  by_verdict (refuses j p) e f x t = inr x

  by_past : (c : Bool) → b ≡ c → o ≡ pick c (refuses past_value start) (verdict_answer n (numbers_to k n numbers) (verdict_on (take k marks)))
      → (c ≡ false → VerdictLaid (take k numbers) (numbers_to k n numbers) (verdict_on (take k marks)) table table')
      → X ≡ pick c (refuses past_value start) (by_numbers level (numbers_to k n numbers) d (verdict_on (take k marks))) → Answer-is o
  by_past true e q t x = subst Answer-is (sym q) (inr x)
  by_past false e q t x = subst Answer-is (sym q) (by_verdict (verdict_on (take k marks)) refl e x (t refl))

  pub closes : o ≡ pick b (refuses past_value start) (verdict_answer n (numbers_to k n numbers) (verdict_on (take k marks)))
      → (b ≡ false → VerdictLaid (take k numbers) (numbers_to k n numbers) (verdict_on (take k marks)) table table') → Answer-is o
  closes q t = by_past b refl q t (ends ∙ ap (pick b (refuses past_value start)) judge_same)

-- a walk that is refused
pub refused_is : (level first : ℕ) (inside : Bool) (start end j p : ℕ) (whole : Answer (List Own)) → whole ≡ refused j p
    → closed_at verdict_on level inside first start end whole ≡ refuses j p
refused_is level first inside start end j p whole e = ap (closed_at verdict_on level inside first start end) e
