use Rattle.std.proofs.Common.{◌≡◌, length, sym, ◌∙◌, rules}
use Rattle.record.proofs.CallTrip.{call_read}
use Rattle.record.proofs.calls.write_call.Goals as goal

pub returns-clause-back : goal.returns-clause-back
returns-clause-back c =
    let long : length c.record_of.result ≡ 64 = search rules in
    let fields = sym c.call_fields.ensures ∙ c.in_ok-call_fields.was in
    call_read c.args.call.now c.in_ok-call_fields.field-0 c.record_of.result fields long c.record_of.ensures.back
