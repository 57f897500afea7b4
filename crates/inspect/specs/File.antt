-- What a file of records tells. Assumes nothing.
use Rattle.std.specs.Prelude.{◌≡◌, ℕ, ◌+◌, ◌*◌, ◌/◌, ◌<◌, cond, List, length, take, drop, ◌==◌, slice_index_or, Result, Ok, Err}
use Rattle.terms.specs.Answers.{Answer, refused, granted}
use Rattle.terms.specs.Refusals.{number}
use Rattle.terms.specs.declared.calls.Call.{Call}
use Rattle.terms.specs.declared.rows.Row.{Row}
use Rattle.record.specs.Calls.{read_call}
use Rattle.record.specs.Rows.{read_row}
use Rattle.inspect.specs.declared.found.Fault.{Fault}
use Rattle.inspect.specs.declared.found.Fault.TheVariants.{Refused, Cut}
use Rattle.inspect.specs.declared.found.Record.{Record}
use Rattle.inspect.specs.declared.found.Record.TheVariants as by

-- A call, a row, the number of a refusal, or how many bytes are left of a cut record.
pub data Told : Type 0 where
  a_call : Call → Told
  a_row : Row → Told
  none : ℕ → Told
  cut : ℕ → Told

-- What a value of the program tells.
abbrev pub told : Result Record Fault → Told
told (Ok (by.Call c)) = a_call c
told (Ok (by.Row r)) = a_row r
told (Err (Refused e)) = none (number e)
told (Err (Cut n)) = cut n

-- What 64 bytes are as a row.
abbrev pub as_row : Answer Row → Told
as_row (granted r) = a_row r
as_row (refused n) = none n

-- What 64 bytes are: a call, or, if the letter is no call's, what they are as a row.
abbrev pub as_call : Answer Call → Answer Row → Told
as_call (granted c) row = a_call c
as_call (refused n) row = cond (n == 2) (as_row row) (none n)

-- Any bytes: 64 are read, fewer are a cut record.
abbrev pub tells : List ℕ → Told
tells bs = cond (length bs == 64) (as_call (read_call bs) (read_row bs)) (cut (length bs))

-- A file has a record for every 64 bytes, and one for what is left over: record k starts at byte 64 k.
pub record FileTold (bs : List ℕ) (all : List (Result Record Fault)) : Type 0 where
  pub count : length all ≡ (length bs + 63) / 64
  pub each_one : (k : ℕ) (d : Result Record Fault) → k < length all → told (slice_index_or all k d) ≡ tells (take 64 (drop (64 * k) bs))
