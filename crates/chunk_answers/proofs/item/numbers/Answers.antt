-- `numbers` meets its contract. Assumes nothing.
use Rattle.std.proofs.Common.{rules}
use Rattle.chunk_answers.proofs.item.numbers.Goals as goal

pub returns : goal.returns
returns c = cc (c.payload-payload.ensures, c.wrapping_add_usize-start.ensures.value)
