-- `owners` meets its contract. Assumes nothing.
use Rattle.std.specs.Prelude.{Result}
use Rattle.cursor.specs.declared.Refusal.{Refusal}
use borrow.Author.Rules.{rules}
use mathlib.Core.Path.{sym, ap}
use Prim.Native.Nat.{ℕ}
use native.Mathlib.Omega.{arith}
use lib.ListN.{replicate, length-replicate}
use lib.Seq.{length-take-le}
use Rattle.cursor.specs.Answers.{count_answer}
use Rattle.body.specs.Verdict.{both}
use Rattle.body.proofs.Answers.{counted_fits}
use Rattle.stream_answers.specs.Modes.{owners_text}
use Rattle.stream_answers.proofs.owners.Goals as goal

pub slice_bounds-table-end : goal.slice_bounds-table-end
slice_bounds-table-end c =
    let h = counted_fits (both (replicate 131072 0) (replicate 65536 0)) _ _ _ _ c.fill.ensures (ap count_answer c.in-Ok.is) in
    omega (arith, h, c.table-2-1.given, length-replicate {A = ℕ} 65536 0)

pub slice_bounds-owner_line-end : goal.slice_bounds-owner_line-end
slice_bounds-owner_line-end c =
    let o = c.fill in
    let h = counted_fits (both (replicate 131072 0) (replicate 65536 0)) _ _ _ _ o.ensures (ap count_answer c.in-Ok.is) in
    sym (length-take-le _ o.new.table (omega (arith, h, c.table-2-1.given, length-replicate {A = ℕ} 65536 0)))

pub returns-in-Ok : goal.returns-in-Ok
returns-in-Ok c =
    let o = c.fill in
    let left = both o.new.sheet o.new.table in
    record {
      text = _;
      allowed = record { answer = count_answer o.result; left = left; answered = o.ensures; is = ap (λ (x : Result ℕ Refusal). owners_text (count_answer x) left.table) (sym c.in-Ok.is) };
      puts = c.owner_line.ensures;
    }

pub returns-in-Err : goal.returns-in-Err
returns-in-Err c =
    let o = c.fill in
    let left = both o.new.sheet o.new.table in
    record {
      text = _;
      allowed = record { answer = count_answer o.result; left = left; answered = o.ensures; is = ap (λ (x : Result ℕ Refusal). owners_text (count_answer x) left.table) (sym c.in-Err.is) };
      puts = c.refused.ensures;
    }
