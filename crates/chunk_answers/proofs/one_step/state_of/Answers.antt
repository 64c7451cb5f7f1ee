-- `state_of` meets its contract. Assumes nothing.
use Rattle.std.proofs.Common.{rules}
use Rattle.chunk_answers.proofs.one_step.state_of.Goals as goal

pub returns : goal.returns
returns c =
    let a = c.u64_at.ensures in
    let b = c.u64_at-2.ensures in
    cc (c.place_of.ensures, a, b, c.u64_at-3.ensures, c.u64_at-4.ensures, c.u64_at-5.ensures)
