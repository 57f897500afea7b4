use Rattle.std.proofs.Common.{◌≡◌, ℕ, refl, arith, lit<}
use Rattle.terms.specs.OddLots.{running}
use Rattle.terms.specs.Selection.{FiveRules}
use Rattle.terms.specs.Examples.{declared_m, changed_m, final_m, final_rows_m}
use Rattle.terms.specs.declared.rows.Class.TheVariants.{Undeclared}
use Rattle.terms.proofs.Check.{five_rules}
use Rattle.terms.proofs.Worked.{first_keeps}
use Rattle.terms.proofs.examples.selects.Goals as goal

-- the odd-lot rule gives 4 and 2 where the other selection takes 5 and 1
changed : FiveRules running declared_m changed_m → ⊥
changed k =
    let e = k.shared Undeclared 20001 (lit< tt) in
    let f : ◌≡◌ {A = ℕ} 5 4 = cc e in
    omega arith

pub returns : goal.returns
returns c = (first_keeps, changed, five_rules running final_m final_rows_m refl refl refl refl refl refl)
