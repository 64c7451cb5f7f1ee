-- `signed` meets its contract. Assumes nothing.
use borrow.Author.Rules.{rules}
use Rattle.print.proofs.Putting.{◌▸◌, put_as}
use Rattle.stream_answers.proofs.Signed.{less_fits, less_number, less_small, minus_text, own_number, plain_text}
use Rattle.stream_answers.proofs.content.signed.Goals as goal

pub overflow_sub-z : goal.overflow_sub-z
overflow_sub-z c =
    less_fits c.args.z c.ranges.z c.if-z-lt0.true

pub overflow_cast-z : goal.overflow_cast-z
overflow_cast-z c =
    less_number c.args.z c.ranges.z c.if-z-lt0.true

pub minus-requires : goal.minus-requires
minus-requires c =
    less_small c.args.z c.ranges.z c.if-z-lt0.true

pub returns-then-z-lt0 : goal.returns-then-z-lt0
returns-then-z-lt0 c =
    c.byte-after.ensures ▸ put_as (minus_text c.args.z c.ranges.z c.if-z-lt0.true) c.minus.ensures

pub overflow_cast-z-2 : goal.overflow_cast-z-2
overflow_cast-z-2 c =
    own_number c.args.z c.ranges.z c.if-z-lt0.false

pub returns : goal.returns
returns c =
    c.byte-after.ensures ▸ put_as (plain_text c.args.z c.ranges.z c.if-z-lt0.false) c.decimal.ensures
