-- Facts about the definitions: one selection keeps the five rules, and one plain month is left by a list of calls. Assumes nothing.
use Rattle.std.specs.Prelude.{◌≡◌, ℕ, ◌<◌, ◌≤◌, true, false, ◌⊎◌, List, [], ◌∷◌, length, sum_by, ◌≢◌}
use Rattle.terms.specs.Lots.{lots_in}
use Rattle.terms.specs.Month.{Month, has, declared_bonds}
use Rattle.terms.specs.Lines.{laid}
use Rattle.terms.specs.OddLots.{OddLotRule, KeepsMeaning, running}
use Rattle.terms.specs.Pairs.{Pairing, Paired}
use Rattle.terms.specs.Plain.{Setup, Leaves}
use Rattle.terms.specs.Rounds.{chosen, leg_rows, round_rows}
use Rattle.terms.specs.Selection.{Selection, FiveRules, told}
use Rattle.terms.specs.declared.calls.Call.{Call}

-- Two selections that keep the five rules are equal.
abbrev pub SelectionAlone : Type 0
SelectionAlone = (share : OddLotRule) (m : Month) (s t : Selection) → FiveRules share m s → FiveRules share m t → s ≡ t

-- Two plain months that the same calls leave are equal.
abbrev pub MonthAlone : Type 0
MonthAlone = (s : Setup) (calls : List Call) (m n : Month) → Leaves s calls m → Leaves s calls n → m ≡ n

-- Each number is below all after it.
abbrev pub Rising : List ℕ → Type 0
Rising [] = Unit {0}
Rising (x ∷ xs) = ((y : ℕ) → has y xs ≡ true → x < y) × Rising xs

-- A month as openings and calls leave it: few accounts in rising order, positions within their limit, and as many short lots as long.
pub record Sound (m : Month) : Type 0 where
  pub few : length m.accounts ≤ 256
  pub rising : Rising m.accounts
  pub limit : (a : ℕ) → lots_in (m.positions a).long ≤ 100000
  pub balanced : sum_by (λ a. (m.positions a).short) m.accounts ≡ sum_by (λ a. lots_in (m.positions a).long) m.accounts

-- Under an odd-lot rule that keeps its meaning, some selection keeps the five rules.
abbrev pub SelectionExists : Type 0
SelectionExists = (share : OddLotRule) (m : Month) → KeepsMeaning share → Sound m → (sel : Selection) × FiveRules share m sel

-- The running rule keeps the meaning of an odd-lot rule.
abbrev pub RunningKeeps : Type 0
RunningKeeps = KeepsMeaning running

-- Two sides with equally many lots, laid along a line in rising account order, give a pairing. Only the month's accounts have lots, and none on
-- both sides.
abbrev pub LinePairing : Type 0
LinePairing = (f g : ℕ → ℕ) (accounts : List ℕ) → Rising accounts → ((a : ℕ) → (has a accounts ≢ true) → (f a ≡ 0) × (g a ≡ 0)) →
    ((a : ℕ) → (f a ≡ 0) ⊎ (g a ≡ 0)) → sum_by f accounts ≡ sum_by g accounts → Pairing accounts f g (laid f g accounts)

-- The rows of a round tell a selection that keeps the five rules.
abbrev pub RoundSelects : Type 0
RoundSelects = (share : OddLotRule) (m : Month) → KeepsMeaning share → Sound m → FiveRules share m (told (round_rows share m))

-- What the legs of a round rest on besides: positions on one side, none of other accounts, and at most four bonds in a declaration.
pub record SoundSides (m : Month) : Type 0 where
  pub one_sided : (a : ℕ) → ((m.positions a).short ≡ 0) ⊎ (lots_in (m.positions a).long ≡ 0)
  pub known : (a : ℕ) → has a m.accounts ≡ false → ((m.positions a).short ≡ 0) × (lots_in (m.positions a).long ≡ 0)
  pub four : (a : ℕ) → length (declared_bonds (m.declarations a)) ≤ 4

-- The legs of a round tell two lists of pairs as they should be.
abbrev pub RoundPairs : Type 0
RoundPairs = (share : OddLotRule) (m : Month) → KeepsMeaning share → Sound m → SoundSides m → Paired m (told (round_rows share m)) (round_rows share m)

-- A round has at most 1,275 legs.
abbrev pub FewLegs : Type 0
FewLegs = (share : OddLotRule) (m : Month) → KeepsMeaning share → Sound m → SoundSides m → length (leg_rows m (chosen share m)) ≤ 1275
