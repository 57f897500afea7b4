use Rattle.std.proofs.Common.{Some, ap, ◌∙◌}
use Rattle.std.specs.Option.{option_map}
use Rattle.record.specs.Calls.{call_letter, call_layout, call_bytes}
use Rattle.record.specs.Fields.{laid_out}
use Rattle.record.proofs.CallTrip.{call_kept}
use Rattle.record.proofs.Reading.{reading_granted}
use Rattle.record.proofs.calls.read_call.Goals as goal

pub returns-clause-only : goal.returns-clause-only
returns-clause-only c =
    let bytes = c.args.bytes.now in
    let letter = c.in_ok-letter.letter in
    let f = c.in_ok-letter.fields in
    let read = reading_granted call_letter call_layout bytes letter f c.in_ok-letter.ensures.answer in
    ap call_bytes c.call.ensures ∙ ap (option_map laid_out) (call_kept bytes letter f read) ∙ ap Some c.in_ok-letter.ensures.back
