-- The legs of a round: the pairs that they tell, and how many there are. Assumes nothing.
use Rattle.std.proofs.Common.{ℕ, ◌≤◌, sum_by, sym, subst, inl, inr, arith}
use Rattle.std.proofs.lemmas.List.Sums.{sum_by-le-sum_by}
use Rattle.std.proofs.lemmas.Bool.{cases_Bool}
use Rattle.terms.specs.Lots.{lots_in}
use Rattle.terms.specs.Month.{Month, has, held, purchase_days}
use Rattle.terms.specs.OddLots.{OddLotRule, KeepsMeaning}
use Rattle.terms.specs.Selection.{taken_on, taken_from}
use Rattle.terms.specs.Pairs.{Paired}
use Rattle.terms.specs.Rounds.{chosen, round_rows}
use Rattle.terms.specs.Facts.{Sound, SoundSides, RoundPairs, FewLegs}
use Rattle.terms.specs.declared.rows.Class.TheVariants.{Declared, Undeclared, Virtual}
use Rattle.terms.proofs.Exists.{classes_held, held_all, within, chosen_keeps}
use Rattle.terms.proofs.Told.{told_round}
use Rattle.terms.proofs.Deliveries.{round_paired}
use Rattle.terms.proofs.LegCount.{few_legs_of}
use Rattle.terms.proofs.Rising.{sum_no_term}

module _ (share : OddLotRule) (m : Month) (keeps : KeepsMeaning share) (sound : Sound m) where
  -- no more lots are taken from an account than it holds
  taken_held : (a : ℕ) → taken_from m (chosen share m) a ≤ sum_by (held m a) (purchase_days m)
  taken_held a =
      sum_by-le-sum_by (taken_on (chosen share m) a) (held m a) (purchase_days m)
      (λ d. omega (
        arith,
        within share m keeps sound a d Declared,
        within share m keeps sound a d Undeclared,
        within share m keeps sound a d Virtual,
        classes_held m a d,
      ))

  pub taken_within : (a : ℕ) → taken_from m (chosen share m) a ≤ lots_in (m.positions a).long
  taken_within a =
      elim (cases_Bool (has a m.accounts)) [
        | inl i ↦ omega (arith, taken_held a, held_all m a i)
        | inr n ↦ omega (arith, taken_held a, sum_no_term (held m a) (purchase_days m) (λ d h. grind arith))
      ]

  paired : SoundSides m → Paired m (chosen share m) (round_rows share m)
  paired sides = round_paired m (chosen share m) sound sides taken_within (chosen_keeps share m keeps sound).complete

pub round_pairs : RoundPairs
round_pairs share m keeps sound sides = subst (λ sel. Paired m sel (round_rows share m)) (sym (told_round share m keeps sound)) (paired share m keeps sound sides)

pub few_legs : FewLegs
few_legs share m keeps sound sides = few_legs_of m (chosen share m) sound sides (taken_within share m keeps sound)
