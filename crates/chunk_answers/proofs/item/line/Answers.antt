-- `line` meets its contract, item by item. Assumes nothing.
use Rattle.print.proofs.Putting.{put_as}
use Rattle.chunk.specs.Listing.{row_words}
use Rattle.chunk_answers.proofs.Walking.{live_row, carved_row, refused_row, last_row}
use Rattle.std.proofs.Common.{rules}
use Rattle.chunk_answers.proofs.item.line.Goals as goal

pub returns-then-row-eq1 : goal.returns-then-row-eq1
returns-then-row-eq1 c =
    let a = c.args in
    put_as (live_row a.chunk.now (row_words a.row) a.row.item _ _ c.if-row-eq1.true c.record_of.ensures c.numbers.ensures)
    c.line.ensures

pub returns-then-row-eq2 : goal.returns-then-row-eq2
returns-then-row-eq2 c =
    let a = c.args in
    put_as (carved_row a.chunk.now (row_words a.row) a.row.item _ _ c.if-row-eq2.true c.record_of-then-row-eq2.ensures c.numbers-then-row-eq2.ensures)
    c.line-then-row-eq2.ensures

pub returns-then-row-eq3 : goal.returns-then-row-eq3
returns-then-row-eq3 c =
    let a = c.args in
    put_as (refused_row a.chunk.now (row_words a.row) a.row.item c.if-row-eq3.true) c.line-then-row-eq3.ensures

pub returns : goal.returns
returns c =
    let a = c.args in
    put_as (last_row a.chunk.now (row_words a.row) a.row.item c.if-row-eq1.false c.if-row-eq2.false c.if-row-eq3.false) c.text.ensures
