-- The calls that stand: those granted, without the dropped trials. Assumes nothing.
use Rattle.std.specs.Prelude.{ℕ, zero, suc, List, [], ◌∷◌}
use Rattle.terms.specs.Answers.{Answer, refused, granted}
use Rattle.terms.specs.declared.calls.Call.{Call}
use Rattle.terms.specs.declared.calls.Call.TheVariants.{Trade, DeclarePurchase, DeclareSale, Withdraw, OpenTrial, KeepTrial, DropTrial, Preview, Draw, LegResult, NextDay}
use Rattle.terms.specs.declared.rows.Row.{Row}

-- What each of a list of calls answered: a refusal's number, or the rows that it wrote.
abbrev pub Answers : Type 0
Answers = List (Answer (List Row))

-- The granted calls, the latest first.
abbrev pub granted_onto : List Call → List Call → Answers → List Call
granted_onto done [] answers = done
granted_onto done (c ∷ calls) [] = done
granted_onto done (c ∷ calls) (refused n ∷ answers) = granted_onto done calls answers
granted_onto done (c ∷ calls) (granted rows ∷ answers) = granted_onto (c ∷ done) calls answers

-- The granted calls of a list.
abbrev pub granted_calls : List Call → Answers → List Call
granted_calls calls answers = granted_onto [] calls answers

-- What a call is to the trials.
pub data Bracket : Type 0 where
  opens keeps drops inside : Bracket

-- What each call is to the trials.
abbrev pub bracket : Call → Bracket
bracket (Trade buyer seller lots) = inside
bracket (DeclarePurchase minute account lots) = inside
bracket (DeclareSale minute account lots bonds) = inside
bracket (Withdraw minute account) = inside
bracket OpenTrial = opens
bracket KeepTrial = keeps
bracket DropTrial = drops
bracket (Preview day) = inside
bracket Draw = inside
bracket (LegResult leg mark unfinished) = inside
bracket NextDay = inside

-- The calls are read back from the latest. `missing` counts the trials that are left out and whose opening is still to be met. At 0 a call
-- stands, except a drop, which leaves out its trial; above 0 it is left out, and the trials within are counted by their ends.
abbrev pub strike_call : Bracket → Call → (ℕ → List Call) → ℕ → List Call
strike_call opens c earlier zero = c ∷ earlier 0
strike_call opens c earlier (suc missing) = earlier missing
strike_call keeps c earlier zero = c ∷ earlier 0
strike_call keeps c earlier (suc missing) = earlier (suc (suc missing))
strike_call drops c earlier zero = earlier 1
strike_call drops c earlier (suc missing) = earlier (suc (suc missing))
strike_call inside c earlier zero = c ∷ earlier 0
strike_call inside c earlier (suc missing) = earlier (suc missing)

-- The calls that stand, read back from the latest.
abbrev pub strike : List Call → ℕ → List Call
strike [] missing = []
strike (c ∷ calls) missing = strike_call (bracket c) c (strike calls) missing

-- The struck list, the latest call first: no refused call, and no dropped trial from its opening to its drop.
abbrev pub struck : List Call → Answers → List Call
struck calls answers = strike (granted_calls calls answers) 0
