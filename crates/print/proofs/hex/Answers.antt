-- `hex` meets its contract. Assumes nothing.
use borrow.Author.Rules.{rules}
use Rattle.print.proofs.Putting.{put_as}
use Rattle.print.proofs.Spelling.{hex_none, hex_some}
use Rattle.print.proofs.hex.Goals as goal

pub returns-then-bytes-eq0 : goal.returns-then-bytes-eq0
returns-then-bytes-eq0 c = put_as (hex_none c.args.bytes.now c.if-bytes-eq0.true) c.byte.ensures

pub returns : goal.returns
returns c = put_as (hex_some c.args.bytes.now c.if-bytes-eq0.false) c.members.ensures
