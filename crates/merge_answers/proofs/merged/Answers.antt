-- `merged` meets its contract: the lists that were read are the case's, and the words lent are its first. Assumes nothing.
use Rattle.std.specs.Prelude.{min}
use mathlib.Core.Path.{◌≡◌, sym, ap, ◌∙◌}
use mathlib.Core.List.{List}
use Prim.Native.Nat.{ℕ, ◌+◌, ◌*◌}
use native.Mathlib.Omega.{arith}
use lib.ListN.{length, take, replicate}
use Rattle.stream_answers.proofs.Parts.{some_as}
use Rattle.stream_answers.specs.Kept.{stored_words}
use Rattle.merge_answers.specs.Merged.{count_at, room_in, primary_in, other_in, lent_in, rule_by, MergeCalled}
use Rattle.merge_answers.proofs.Counts.{first_length, first_lent}
use Rattle.merge_answers.proofs.merged.Goals as goal

pub slice_bounds-primary-end : goal.slice_bounds-primary-end
slice_bounds-primary-end c = sym (first_length c.count-a.result 41470 0 c.count-a.ensures.1)

pub load-requires : goal.load-requires
load-requires c = (omega (arith, first_length c.count-a.result 41470 0 c.count-a.ensures.1, c.count-a.ensures.1), omega arith)

pub slice_bounds-other-end : goal.slice_bounds-other-end
slice_bounds-other-end c = sym (first_length c.count-b.result 41470 0 c.count-b.ensures.1)

pub load-requires-2 : goal.load-requires-2
load-requires-2 c = (omega (arith, first_length c.count-b.result 41470 0 c.count-b.ensures.1, c.count-b.ensures.1), omega (arith, c.count-a.ensures.1))

pub slice_bounds-called-end : goal.slice_bounds-called-end
slice_bounds-called-end c = sym (first_length c.min-room.result 65536 18446744073709551615 (omega (arith, c.min-room.ensures)))

pub returns : goal.returns
returns c =
    let a = c.args in
    let b = a.bytes.now in
    let m = c.count-a in
    let n = c.count-b in
    let all : List ℕ = replicate 65536 18446744073709551615 in
    let rule = rule_by a.newest in
    let p : c.load.new.words ≡ primary_in b =
    c.load.ensures ∙ ap (λ (k : ℕ). stored_words k b 12) (first_length m.result 41470 0 m.ensures.1 ∙ m.ensures.0) in
    let o : c.load-2.new.words ≡ other_in b =
    c.load-2.ensures ∙ ap (λ (k : ℕ). stored_words k b (12 + 8 * m.result)) (first_length n.result 41470 0 n.ensures.1 ∙ n.ensures.0)
    ∙ ap (λ (k : ℕ). stored_words (count_at b 4) b (12 + 8 * k)) m.ensures.0 in
    let w : take c.min-room.result all ≡ lent_in b =
    ap (λ (k : ℕ). take k all) (c.min-room.ensures ∙ ap (λ (k : ℕ). min k 65536) c.u32_at.ensures) ∙ first_lent (room_in b) 65536 18446744073709551615 in
    some_as
    (ap (λ (l : List ℕ). MergeCalled l c.load-2.new.words rule (take c.min-room.result all)) p
    ∙ ap (λ (l : List ℕ). MergeCalled (primary_in b) l rule (take c.min-room.result all)) o ∙ ap (MergeCalled (primary_in b) (other_in b) rule) w)
    c.called.ensures
