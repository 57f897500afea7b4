use Rattle.std.proofs.Common.{ap, subst, ◌∙◌, rules, arith}
use Rattle.std.proofs.lemmas.List.Sorted.{IsPartitionPoint-from_clause}
use Rattle.register.specs.Places.{place_of, Placed}
use Rattle.register.proofs.Placing.{found_place}
use Rattle.register.proofs.Rising.{rising_parted}
use Rattle.register.proofs.registers.Register.place.Goals as goal

pub returns : goal.returns
returns g c =
    let before = g.K.Key.before in
    let order = g.met.K.Key.order in
    let keys = c.keys-keys.result.now in
    let key = c.args.key.now in
    let at = c.partition_point-at in
    let part = IsPartitionPoint-from_clause (λ k. before k key) keys at.result at.ensures.partitioned
    (rising_parted before order keys key c.keys-keys.ensures.rising) (λ a r q k. search rules) in
    let both = found_place before order keys key at.result c.keys-keys.ensures.rising (λ i l. part.0 i key (omega arith) l) (λ i l m. part.1 i key l m)
    c.found_at.result c.found_at.ensures in
    let same = c.keys-keys.ensures.keys in
    record {
      place = both.0 ∙ ap (λ ks. place_of before ks key) same;
      meaning = subst (λ ks. Placed ks key c.found_at.result) same both.1;
      within = grind arith;
    }
