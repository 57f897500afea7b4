use Rattle.std.proofs.Common.{◌≡◌, true, false, arith, rules}
use Rattle.std.proofs.lemmas.Iterator.{first_from_Range}
use borrow.Author.Tests.{tests}
use Rattle.calendar.proofs.Searched.{next_within}
use Rattle.calendar.proofs.calendars.next_business_day.Goals as goal

pub returns : goal.returns
returns g c =
    let business = g.C.Calendar.business c.args.calendar.now in
    let found = first_from_Range _ _ _ _ (λ d. business d ≡ true) (λ d. business d ≡ false) c.find.ensures.ran (λ d p k. search (rules, tests)) (λ d p k. search (rules, tests)) in
    next_within business c.args.day c.args.limit _ _ _ found (omega arith) (omega arith) (g.met.C.Calendar.bounded c.args.calendar.now)
