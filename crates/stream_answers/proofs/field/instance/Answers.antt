-- `instance` meets its contract. Assumes nothing.
use borrow.Author.Rules.{rules}
use mathlib.Core.Path.{ap}
use Rattle.tokens.specs.declared.Values.{Values}
use Rattle.print.proofs.Putting.{◌▸◌, put_as}
use Rattle.stream_answers.specs.Content.{bytes_field}
use Rattle.stream_answers.specs.Token.{values_from}
use Rattle.stream_answers.proofs.field.instance.Goals as goal

pub returns : goal.returns
returns c =
    let a = c.args in
    c.number-a.ensures
    ▸ c.number-b.ensures
    ▸ put_as (ap bytes_field c.of.ensures) c.bytes-c.ensures
    ▸ c.number-d.ensures
    ▸ put_as (ap (λ (v : Values). values_from v.left a.s.now v) c.of-2.ensures) c.values.ensures
