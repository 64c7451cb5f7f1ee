-- `header` meets its contract: the lines of a header that is read, or its refusal. Assumes nothing.
use Rattle.std.proofs.Common.{sym, ap, ◌∙◌, rules}
use Rattle.record.specs.Answers.{fields_answer}
use Rattle.print.proofs.Putting.{◌▸◌, put_as}
use Rattle.chunk_answers.specs.Header.{header_on}
use Rattle.chunk_answers.proofs.Texts.{header_read}
use Rattle.chunk_answers.proofs.chunk_header.header.Goals as goal

pub returns-in-Ok : goal.returns-in-Ok
returns-in-Ok c =
    let h = c.read_header-head in
    put_as (header_read _ h.result _ h.ensures.fields_value h.ensures.strings_value h.ensures.templates_value c.in-Ok.is)
    (c.fields-a.ensures
    ▸ c.checksum-b.ensures
    ▸ c.tables.ensures)

pub returns-in-Err : goal.returns-in-Err
returns-in-Err c =
    let h = c.read_header-head in
    let e = ap fields_answer (sym c.in-Err.is) ∙ h.ensures.fields_value in
    put_as (ap (header_on _) e) c.refused.ensures
