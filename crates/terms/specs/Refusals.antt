-- The number of each refusal. Assumes nothing.
use Rattle.std.specs.Prelude.{◌≡◌, ℕ, ◌≢◌, Result, MatchResult}
use Rattle.terms.specs.declared.refusals.Refusal.{Refusal}
use Rattle.terms.specs.declared.refusals.UnknownNumber.{UnknownNumber}
use Rattle.terms.specs.declared.refusals.Refusal.TheVariants.{WrongLength, UnknownLetter, BadField, NotShareable, TooManyClosings, BadDays, BadAccounts, BadBonds, BadPositions, UnequalTotals, AreaTooSmall, ForeignArea, DayOver, UnknownAccount, SameAccount, LotsOutOfRange, TooManyLots, TooManyDates, JournalFull, OutsideWindow, BadBondEntries, AboveNetLots, NothingDeclared, TooManyTrials, NoTrial, TrialOpen, ResultMissing, RowAreaTooSmall, UnknownLeg, NotDeliveryDay, ResultGiven, BadResult, NotDrawn, ClosingDay, BadPreviewDay, OtherRows, BadPrices, LegUnsettled}

-- The number by which hosts know a refusal.
abbrev pub number : Refusal → ℕ
number WrongLength = 1
number UnknownLetter = 2
number BadField = 3
number NotShareable = 8
number TooManyClosings = 9
number BadDays = 10
number BadAccounts = 11
number BadBonds = 12
number BadPositions = 13
number UnequalTotals = 14
number AreaTooSmall = 15
number ForeignArea = 16
number DayOver = 20
number UnknownAccount = 21
number SameAccount = 22
number LotsOutOfRange = 23
number TooManyLots = 24
number TooManyDates = 25
number JournalFull = 26
number OutsideWindow = 30
number BadBondEntries = 31
number AboveNetLots = 32
number NothingDeclared = 33
number TooManyTrials = 40
number NoTrial = 41
number TrialOpen = 42
number ResultMissing = 43
number RowAreaTooSmall = 44
number UnknownLeg = 45
number NotDeliveryDay = 46
number ResultGiven = 47
number BadResult = 48
number NotDrawn = 49
number ClosingDay = 50
number BadPreviewDay = 51
number OtherRows = 60
number BadPrices = 61
number LegUnsettled = 63

-- A number read: the refusal that has it, or the number again, exactly if no refusal has it.
abbrev pub Numbered : ℕ → Result Refusal UnknownNumber → Type 0
Numbered n r = MatchResult r (λ x. number x ≡ n) (λ e. (e.0 ≡ n) × ((x : Refusal) → number x ≢ n))
