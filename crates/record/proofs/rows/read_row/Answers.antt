use Rattle.record.specs.Rows.{row_letter, row_layout}
use Rattle.record.proofs.RowTrip.{row_only}
use Rattle.record.proofs.Reading.{reading_granted}
use Rattle.record.proofs.rows.read_row.Goals as goal

pub returns-clause-only : goal.returns-clause-only
returns-clause-only c =
    let bytes = c.args.bytes.now in
    let letter = c.in_ok-letter.letter in
    let f = c.in_ok-letter.fields in
    let read = reading_granted row_letter row_layout bytes letter f c.in_ok-letter.ensures.answer in
    row_only bytes letter f c.row.result read c.in_ok-letter.ensures.back c.row.ensures
