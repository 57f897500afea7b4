-- The law of the month: of the calls made on an opened month and what each answered. Assumes nothing.
use Rattle.std.specs.Prelude.{◌≡◌, ℕ, ◌<◌, ◌↔◌, List, length, take, slice_index_or}
use Rattle.terms.specs.Month.{Month}
use Rattle.terms.specs.Pairs.{Paired}
use Rattle.terms.specs.Plain.{Setup, Leaves}
use Rattle.terms.specs.Selection.{Selection, FiveRules, told}
use Rattle.terms.specs.Answers.{refused, granted}
use Rattle.terms.specs.Struck.{Answers, struck}
use Rattle.terms.specs.declared.calls.Call.{Call}
use Rattle.terms.specs.declared.calls.Call.TheVariants.{Draw}
use Rattle.terms.specs.declared.rows.Row.{Row}

-- What holds of the rows of a granted draw, `before` being the struck list of the calls before it.
pub record DrawLaw (s : Setup) (before : List Call) (rows : List Row) : Type 0 where
  -- those calls leave a plain month, and no other
  pub month : Month
  pub left : Leaves s before month
  pub alone : (other : Month) → Leaves s before other → other ≡ month
  -- an offered selection is the drawn one exactly when it keeps the five rules over this month
  pub selected : (offered : Selection) → (told rows ≡ offered) ↔ FiveRules s.share month offered
  -- the pairs of each list add up to each account's lots there, and are few
  pub paired : Paired month (told rows) rows

-- The law: each call has its answer, and of each granted draw, at place k, the above holds.
pub record MonthLaw (s : Setup) (calls : List Call) (answers : Answers) : Type 0 where
  pub answered : length answers ≡ length calls
  pub draws : (k : ℕ) (rows : List Row) → k < length calls → slice_index_or calls k Draw ≡ Draw → slice_index_or answers k (refused 0) ≡ granted rows →
      DrawLaw s (struck (take k calls) (take k answers)) rows
