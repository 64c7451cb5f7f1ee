-- A window whose tokens and whose values' bodies are in order is accepted. Assumes nothing.
use mathlib.Core.Path.{◌≡◌, refl, sym, ap, subst, ◌∙◌}
use mathlib.Core.Bool.{Bool, true, false}
use mathlib.Core.List.{List, [], ◌∷◌, ◌++◌}
use Prim.Native.Nat.{ℕ, suc, ◌+◌, ◌-◌, ◌≤◌, ◌<◌}
use native.Mathlib.Omega.{arith}
use borrow.Author.Tests.{le-ltb, le-leb, leb-true, eq-eqb, ne_eqb}
use lib.Dec.{eqb, leb}
use lib.ListN.{length}
use Rattle.cursor.specs.Answer.{Answer, given, Result, gives, refuses, ◌then◌, pick}
use Rattle.cursor.specs.Reads.{number_of}
use Rattle.cursor.specs.Refusals.{wrong_length, past_end}
use Rattle.cursor.proofs.Choice.{either}
use Rattle.value.specs.declared.Value.{Value}
use Rattle.tokens.specs.Instance.{value_in}
use Rattle.tokens.specs.Walk.{window_of}
use Rattle.tokens.specs.declared.Flags.{Flags}
use Rattle.sheet.specs.Sheet.{marks_of}
use Rattle.body.specs.Verdict.{a_body}
use Rattle.body.proofs.One.{one_verdict}
use Rattle.nest.specs.Nested.{bin_xml, past_value, deepest_body, Entry, Own, own, Inner, held_in, values_from, nest_at, tokens_of, numbers_from, by_numbers, inner_flags, judged_from, closed_at, window_at, body_at, in_window, nested_of}
use Rattle.promises.specs.Nests.{Says}
use Rattle.promises.specs.NestWindows as w
use Rattle.promises.specs.NestWindows.{Window, window, Walk, a_token, an_instance, a_header, its_end, Values, no_more, another, Accepted, ExactlyWhen}
use Rattle.nest.proofs.Nesting.{prepended, nest_token, nest_header, nest_over, nest_begun, values_none, values_held}
use Rattle.promises.proofs.NestTurns.{instance_of}
use Rattle.promises.proofs.NestSound.{IsWindow, nest_sound, closed_sound, body_sound}

-- the values after one that was read
values_on : (s : List ℕ) (inner : Inner) (n table at next count last : ℕ) (v : Value) (l m : List Entry) → value_in s table at ≡ given v next
    → held_in inner (eqb v.code bin_xml) n v.start (number_of s table 2) ≡ gives l
    → values_from s inner (n + length l) (table + 4) next count ≡ given m last → values_from s inner n table at (suc count) ≡ given (l ++ m) last
values_on s inner n table at next count last v l m e h r =
    let c : suc count - 1 ≡ count = omega arith in
    values_held s inner n table at (suc count) v next l (omega arith) e h
    ∙ ap (λ (z : ℕ). values_from s inner (n + length l) (table + 4) next z then λ m last. given (l ++ m) last) c
    ∙ ap (λ (y : Answer (List Entry)). y then λ m last. given (l ++ m) last) r

-- a window that starts in the stream
pub in_stream : (s : List ℕ) (start len : ℕ) → length s ≤ 65536 → start ≤ length s → window_of s start len ≡ gives (start, start + len)
in_stream s start len h k =
    ap (λ (b : Bool). pick b (pick (leb start (length s)) (gives (start, start + len)) (refuses past_end start)) (refuses wrong_length 0)) (le-leb (length s) 65536 h)
    ∙ ap (λ (b : Bool). pick b (gives (start, start + len)) (refuses past_end start)) (le-leb start (length s) k)

module _ (judge : List ℕ → Result (List ℕ)) (says : Says judge) (s : List ℕ) where
  -- the bodies in the values of a level
  abbrev pub below : ℕ → Bool → Inner
  below level inline = body_at judge s inline (deepest_body - level)

  judged : (level n : ℕ) (l : List Own) (words : List ℕ) (v : Result (List ℕ)) → v ≡ gives words
      → by_numbers level (numbers_from n l) l v ≡ by_numbers level (numbers_from n l) l (gives words)
  judged level n l words v e = ap (by_numbers level (numbers_from n l) l) e

  within_value : (level n start end last : ℕ) (inside : Bool) (l : List Own) → (inside ≡ true → last ≤ end)
      → closed_at judge level inside n start end (given l last) ≡ judged_from judge level n l
  within_value level n start end last true l h =
      ap (λ (b : Bool). pick b (refuses past_value start) (judged_from judge level n l)) (le-ltb end last (h refl))
  within_value level n start end last false l h = refl

  opened : (n start size left : ℕ) (inline : Bool) → body_at judge s inline (suc left) n start size
      ≡ window_at judge s (body_at judge s inline left) (deepest_body - left) true (inner_flags inline) n start (start + size)
  unfolding body_at
  opened n start size left inline = refl

  body_window : (level n start size : ℕ) (inline : Bool) → suc level ≤ deepest_body
      → below level inline n start size ≡ window_at judge s (below (suc level) inline) (suc level) true (inner_flags inline) n start (start + size)
  body_window level n start size inline h =
      let e : deepest_body - level ≡ suc (deepest_body - suc level) = omega arith in
      let d : deepest_body - (deepest_body - suc level) ≡ suc level = omega arith in
      ap (λ (z : ℕ). body_at judge s inline z n start size) e ∙ opened n start size (deepest_body - suc level) inline
      ∙ ap (λ (z : ℕ). window_at judge s (below (suc level) inline) z true (inner_flags inline) n start (start + size)) d

  mutual
    pub window_complete : {level n start end : ℕ} {f : Flags} {l : List Entry} (inside : Bool) → (inside ≡ true → 0 < level) → Window s level f n start end l
        → window_at judge s (below level f.inline) level inside f n start end ≡ gives l
    window_complete {level = level} {n = n} {start = start} {end = end} inside h (window {last = last} {l = l} {words = words} d x i r e) =
        ap (closed_at judge level inside n start end) (walk_complete x)
        ∙ within_value level n start end last inside l (λ z. i (h z))
        ∙ judged level n l words (judge (marks_of (tokens_of l))) (one_verdict (marks_of (tokens_of l)) (says (marks_of (tokens_of l))) (a_body words r))
        ∙ ap gives (sym e)

    pub walk_complete : {level end n at last : ℕ} {f : Flags} {l : List Own} → Walk s level end f n at l last
        → nest_at s (below level f.inline) end f n at ≡ given l last
    walk_complete {level = level} {end = end} {n = n} {at = at} {last = last} {f = f} (a_token {next = next} {t = t} {r = r} e q x) =
        let z : n + 1 ≡ suc n = omega arith in
        nest_token s (below level f.inline) end f n at t next e
        ∙ ap (λ (m : ℕ). prepended (own t [] ∷ []) (nest_at s (below level f.inline) end f m next)) z
        ∙ ap (prepended (own t [] ∷ [])) (walk_complete x) ∙ ap (λ (o : Own). given (o ∷ r) last) (sym q)
    walk_complete {level = level} {end = end} {n = n} {at = at} {last = last} {f = f} (an_instance {next = next} {m = m} {i = i} {l = l} {r = r} e v q x) =
        nest_begun s (below level f.inline) end f n at i next e
        ∙ ap
        (λ (y : Answer (List Entry)).
        y then λ l last.
        prepended (own (instance_of i at last) l ∷ []) (nest_at s (below level f.inline) end f (suc n + length l) last))
        (values_complete v)
        ∙ ap (prepended (own (instance_of i at m) l ∷ [])) (walk_complete x) ∙ ap (λ (o : Own). given (o ∷ r) last) (sym q)
    walk_complete {level = level} {end = end} {n = n} {at = at} {f = f} (a_header {next = next} e x) =
        nest_header s (below level f.inline) end f n at next e ∙ walk_complete x
    walk_complete {level = level} {end = end} {n = n} {at = at} {last = last} {f = f} (its_end e) = nest_over s (below level f.inline) end f n at last e

    pub values_complete : {level n table at count last : ℕ} {inline : Bool} {l : List Entry} → Values s level inline n table at count l last
        → values_from s (below level inline) n table at count ≡ given l last
    values_complete {level = level} {n = n} {table = table} {at = at} {inline = inline} no_more = values_none s (below level inline) n table at 0 refl
    values_complete {level = level} {n = n} {table = table} {at = at} {last = last} {inline = inline} (another {next = next} {count = count} {v = v} {l = l} e h x) =
        let z : n ≡ n + 0 = omega arith in
        values_on s (below level inline) n table at next count last v [] l e
        (ap (λ (b : Bool). held_in (below level inline) b n v.start (number_of s table 2)) (ne_eqb v.code bin_xml h))
        (ap (λ (m : ℕ). values_from s (below level inline) m (table + 4) next count) (sym z) ∙ values_complete x)
    values_complete {level = level} {n = n} {table = table} {at = at} {last = last} {inline = inline}
        (w.Values.a_body {next = next} {count = count} {v = v} {l = l} {m = m} e h b x q) =
        values_on s (below level inline) n table at next count last v l m e
        (ap (λ (b : Bool). held_in (below level inline) b n v.start (number_of s table 2)) (eq-eqb v.code bin_xml h)
        ∙ body_window level n v.start (number_of s table 2) inline (window_level b) ∙ window_complete true (λ z. omega arith) b)
        (values_complete x)
        ∙ ap (λ (z : List Entry). given z last) (sym q)

    window_level : {level n start end : ℕ} {f : Flags} {l : List Entry} → Window s level f n start end l → level ≤ deepest_body
    window_level (window d x i r e) = d

  module _ (start len : ℕ) (f : Flags) (l : List Entry) where
    abbrev Accepts : Result (ℕ × ℕ) → Type 0
    Accepts x = in_window judge s f x ≡ gives l → Accepted s start len f l

    is_window : length s ≤ 65536 → start ≤ length s → Accepts (gives (start, start + len))
    is_window h k e =
        let inner = body_at judge s f.inline deepest_body in (
          h,
          k,
          subst (IsWindow s 0 f 0 start (start + len)) e
              (closed_sound judge says s 0 0 start (start + len) false f (nest_at s inner (start + len) f 0 start) (omega arith) (λ z. absurd (omega arith))
              (nest_sound s 0 (start + len) f inner (body_sound judge says s deepest_body f.inline (omega arith)) 0 start)),
        )

    none_given : (k p : ℕ) → Accepts (refuses k p)
    none_given k p e = let z : ◌≡◌ {A = ℕ} 0 1 = cc in absurd (omega arith)

    only_windows : nested_of judge s start len f ≡ gives l → Accepted s start len f l
    only_windows =
        either Accepts (leb (length s) 65536) _ _
        (λ h. either Accepts (leb start (length s)) _ _
        (λ k. is_window (leb-true (length s) 65536 h) (leb-true start (length s) k))
        (λ k. none_given past_end start))
        (λ h. none_given wrong_length 0)

    every_window : Accepted s start len f l → nested_of judge s start len f ≡ gives l
    every_window x = ap (in_window judge s f) (in_stream s start len x.0 x.1) ∙ window_complete false (λ z. let e : ◌≡◌ {A = ℕ} 0 1 = cc in absurd (omega arith)) x.2

-- "the call accepts exactly when the outer walk and every window reached from it are read", and so on
pub exactly_when : ExactlyWhen
exactly_when judge says s start len f l = (only_windows judge says s start len f l, every_window judge says s start len f l)
