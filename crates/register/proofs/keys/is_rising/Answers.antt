use Rattle.std.proofs.Common.{rules}
use Rattle.std.proofs.lemmas.Fn.{always_returns_same}
use Rattle.std.proofs.lemmas.List.{take_rest}
use Rattle.register.proofs.Rising.{climbs_told}
use Rattle.register.proofs.keys.is_rising.Goals as goal

pub returns : goal.returns
returns g c =
    let before = g.K.Key.before in
    let told = climbs_told before _ c.is_sorted_by.result
    (c.is_sorted_by.ensures.cases before (always_returns_same _ _ _ (λ a r q k. search rules))) in
    grind (told, rules, take_rest)
