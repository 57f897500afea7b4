use Rattle.std.proofs.Common.{◌≡◌, true, ◌∙◌, sym, subst, arith}
use Rattle.terms.proofs.Fill.{sum_positive}
use Rattle.oddlot.specs.Sharing.{can_split}
use Rattle.oddlot.specs.Fair.{within}
use Rattle.oddlot.proofs.Shareable.{passed_from}
use Rattle.oddlot.proofs.shares.Sharing.new.Goals as goal

pub invariant_of-result : goal.invariant_of-result
invariant_of-result c =
    let h : can_split c.args.lots.now c.args.n c.args.places ≡ true = sym c.can_split.ensures ∙ c.if-not-can_split.false in
    let p = passed_from c.args.lots.now c.args.n c.args.places h in
    let s = sum_positive c.args.lots.now p.shareable.sizes p.shareable.some in
    let e = c.total.ensures in
    record {
      answered = subst (λ places. can_split c.args.lots.now c.args.n places ≡ true) p.as_many h;
      whole = e;
      some = omega arith;
      within = omega (arith, p.shareable.enough);
      rounds = within c.args.lots.now c.args.n p.shareable;
    }

pub overflow_cast-result : goal.overflow_cast-result
overflow_cast-result c =
    let p = passed_from c.args.lots.now c.args.n c.args.places (sym c.can_split.ensures ∙ c.if-not-can_split.false) in
    omega (arith, c.total.ensures, p.bounded)
