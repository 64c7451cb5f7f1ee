-- Each mode's text from the parts that were put. Assumes nothing.
use Rattle.std.specs.Prelude.{Ok, Result, Some, None, Option, is_some, unwrap_or}
use Rattle.std.specs.Int.{from_bool}
use Rattle.cursor.specs.declared.Refusal.{Refusal}
use Rattle.std.proofs.Common.{◌≡◌, ℕ, ◌-◌, ◌<◌, ◌≤◌, Bool, true, false, List, [], ◌∷◌, ◌++◌, length, take, drop, sym, refl, ap, ◌∙◌, subst, append-nil, arith, length-drop, take_all, le-ltb, lt-ltb}
use Rattle.cursor.specs.Answer.{given, Maybe, pick}
use Rattle.record.specs.Answers.{fields_answer}
use Rattle.record.specs.Chunk.{fields_at, checksum_at, strings_of, templates_of, header_end}
use Rattle.record.specs.Record.{record_at}
use Rattle.record.specs.declared.Fields.{Fields}
use Rattle.record.specs.declared.Header.{Header}
use Rattle.chunk.specs.Walk.{Reply, Steps, resync_answer, ResyncAfter}
use Rattle.chunk.specs.declared.Walk.{Walk}
use Rattle.print.specs.Text.{ascii, line_of, Puts, PutsSome}
use Rattle.print.proofs.Putting.{put_none, put_as}
use Rattle.chunk_answers.specs.Header.{field_numbers, checksum_line, table_lines, header_on, header_text}
use Rattle.chunk_answers.specs.Item.{step_line}
use Rattle.chunk_answers.specs.Record.{record_line, resync_line, RecordText}
use Rattle.chunk_answers.specs.Step.{place_numbers, state_at, state_line, StepText}

-- mode H: the lines of a header that is read
pub header_read : (s : List ℕ) (h : Header) (f : Fields) → fields_answer h.fields ≡ fields_at s → h.strings ≡ strings_of s → h.templates ≡ templates_of s
    → h.fields ≡ Ok f
    → line_of (ascii "header") (field_numbers f) ++ checksum_line (checksum_at s) ++ table_lines h.strings h.templates ≡ header_text s
header_read s h f e strings templates k =
    let lines = line_of (ascii "header") (field_numbers f) ++ checksum_line (checksum_at s) in
    let g : given f header_end ≡ fields_at s = ap fields_answer (sym k) ∙ e in
    ap (λ (l : List ℕ). lines ++ table_lines l h.templates) strings ∙ ap (λ (l : List ℕ). lines ++ table_lines (strings_of s) l) templates
    ∙ ap (header_on s) g

-- mode R: the record's line and the resync line, and the record's line alone
module _ (s : List ℕ) (start : ℕ) (strict : Bool) {lent left : List ℕ} {at end : ℕ} (resync : Result (Option ℕ) Refusal) (after : ResyncAfter s start (resync_answer resync)) where
  pub with_resync : Puts (record_line s (record_at s start strict) ++ resync_line resync) lent at left end → PutsSome (RecordText s start strict) lent at left end
  with_resync p =
      record {
        text = record_line s (record_at s start strict) ++ resync_line resync;
        allowed = record { resync = resync; after = after; is = refl };
        puts = p;
      }

  pub no_resync : resync_line resync ≡ [] → Puts (record_line s (record_at s start strict)) lent at left end → PutsSome (RecordText s start strict) lent at left end
  no_resync e p =
      let line = record_line s (record_at s start strict) in
      with_resync (put_as (sym (append-nil line) ∙ ap (λ (l : List ℕ). line ++ l) (sym e)) p)

-- mode P: the state's line
place_words : (place : Option ℕ) → from_bool (is_some place) ∷ unwrap_or place 0 ∷ [] ≡ place_numbers place
place_words (Some p) = refl
place_words None = refl

flag_word : (b : Bool) → from_bool b ≡ pick b 1 0
flag_word true = refl
flag_word false = refl

pub state_line_lem : (w : Walk) (stands position flag : ℕ) → stands ≡ from_bool (is_some w.place) → position ≡ unwrap_or w.place 0 → flag ≡ from_bool w.recover
    → line_of (ascii "state") (stands ∷ position ∷ w.from ∷ w.to ∷ flag ∷ []) ≡ state_line w
state_line_lem w stands position flag e f g =
    (λ i. line_of (ascii "state") (e i ∷ f i ∷ w.from ∷ w.to ∷ g i ∷ []))
    ∙ (λ i. line_of (ascii "state") (place_words w.place i ++ (w.from ∷ w.to ∷ flag_word w.recover i ∷ [])))

-- what stands behind the state
pub behind : (s : List ℕ) → take (length s - 40) (drop 40 s) ≡ drop 40 s
behind s = take_all (length s - 40) (drop 40 s) (omega (arith, length-drop 40 s))

pub step_none : (s lent : List ℕ) (at : ℕ) → length s < 40 → PutsSome (StepText s) lent at lent at
step_none s lent at h = record { text = []; allowed = rw (lt-ltb (length s) 40 h) refl; puts = put_none }

pub step_some : (s chunk : List ℕ) (w next : Walk) (says : Maybe Reply) {lent left : List ℕ} {at end : ℕ} → 40 ≤ length s → chunk ≡ drop 40 s → w ≡ state_at s
    → Steps chunk w (next, says) → Puts (step_line chunk says ++ state_line next) lent at left end → PutsSome (StepText s) lent at left end
step_some s chunk w next says h e f t p =
    record {
      text = step_line chunk says ++ state_line next;
      allowed = rw (le-ltb (length s) 40 h) (record {
        next = next;
        says = says;
        steps = subst (λ (v : Walk). Steps (drop 40 s) v (next, says)) f (subst (λ (l : List ℕ). Steps l w (next, says)) e t);
        is = ap (λ (l : List ℕ). step_line l says ++ state_line next) e;
      });
      puts = p;
    }
