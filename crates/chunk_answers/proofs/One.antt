-- Each mode's definition allows one text. Assumes nothing.
use Rattle.std.specs.Prelude.{Result, Option}
use Rattle.cursor.specs.declared.Refusal.{Refusal}
use Rattle.std.proofs.Common.{◌≡◌, ℕ, Bool, true, false, ltb, List, [], ◌++◌, length, drop, sym, ap, ◌∙◌}
use Rattle.cursor.specs.Answer.{Answer, given, refused, Maybe}
use Rattle.record.specs.Chunk.{fields_at}
use Rattle.record.specs.Record.{record_at}
use Rattle.record.specs.declared.Fields.{Fields}
use Rattle.chunk.specs.Walk.{Choose, Reply, start_of}
use Rattle.chunk.specs.declared.Walk.{Walk}
use Rattle.chunk.proofs.OneStep.{step_one, resync_one}
use Rattle.chunk.proofs.Counting.{runs_one}
use Rattle.print.specs.Text.{ascii}
use Rattle.chunk_answers.specs.Item.{step_line}
use Rattle.chunk_answers.specs.Record.{record_line, resync_line, RecordText}
use Rattle.chunk_answers.specs.Walk.{item_lines, WalkOn, WalkText}
use Rattle.chunk_answers.specs.Step.{state_at, state_line, StepLines, StepText}

-- mode R
pub record_one : (s : List ℕ) (start : ℕ) (strict : Bool) (t u : List ℕ) → RecordText s start strict t → RecordText s start strict u → t ≡ u
record_one s start strict t u h k =
    let e = resync_one s start h.resync k.resync h.after k.after in
    h.is ∙ ap (λ (r : (Result (Option ℕ) Refusal)). record_line s (record_at s start strict) ++ resync_line r) e ∙ sym k.is

-- mode W
walk_by : (s : List ℕ) (recover : Bool) (t u : List ℕ) (f : Answer Fields) → WalkOn s recover t f → WalkOn s recover u f → t ≡ u
walk_by s recover t u (given h n) p q =
    let e = runs_one s (start_of recover) p.items q.items p.runs q.runs in
    p.is ∙ ap (λ (items : List Reply). item_lines s items ++ ascii "done\n") e ∙ sym q.is
walk_by s recover t u (refused k c) p q = p ∙ sym q

pub walk_one : (s : List ℕ) (recover : Bool) (t u : List ℕ) → WalkText s recover t → WalkText s recover u → t ≡ u
walk_one s recover t u p q = walk_by s recover t u (fields_at s) p q

-- mode P
step_by : (few : Bool) (s : List ℕ) (w : Walk) (t u : List ℕ) → Choose few (t ≡ []) (StepLines s w t) → Choose few (u ≡ []) (StepLines s w u) → t ≡ u
step_by true s w t u p q = p ∙ sym q
step_by false s w t u p q =
    let e = step_one s w (p.next, p.says) (q.next, q.says) p.steps q.steps in
    p.is ∙ ap (λ (x : Walk × Maybe Reply). step_line s x.1 ++ state_line x.0) e ∙ sym q.is

pub step_text_one : (s t u : List ℕ) → StepText s t → StepText s u → t ≡ u
step_text_one s t u p q = step_by (ltb (length s) 40) (drop 40 s) (state_at s) t u p q
