-- The rules of the house. Assumes nothing.
use Rattle.terms.specs.OddLots.{OddLotRule, running}
use Rattle.oddlot.specs.Priorities.{by_priority, largest_remainder}
use Rattle.oddlot.specs.declared.house.HouseRule.{HouseRule}
use Rattle.oddlot.specs.declared.house.HouseRule.TheVariants.{Running, Remainder}

-- What each rule of the house gives.
abbrev pub house_share : HouseRule → OddLotRule
house_share Running = running
house_share Remainder = by_priority largest_remainder
