-- What calls and rows share in being read: the length, the letter, the fields that are zero. Assumes nothing.
use Rattle.std.specs.Prelude.{ℕ, Bool, cond, not, ◌&&◌, ◌||◌, List, [], ◌∷◌, length, drop, replicate, Some, None, Option, Result, ok_or, ◌==◌}
use Rattle.std.specs.List.{list_all}
use Rattle.terms.specs.Answers.{Answer, refused, granted}
use Rattle.terms.specs.Codes.{used}
use Rattle.terms.specs.declared.calls.BondLots.{BondLots}
use Rattle.terms.specs.declared.refusals.Refusal.{Refusal}
use Rattle.terms.specs.declared.refusals.Refusal.TheVariants.{UnknownLetter}
use Rattle.record.specs.Fields.{fields}
use Rattle.record.specs.declared.fields.Fields.{Fields}
use Rattle.record.specs.declared.tables.Layout.{Layout}

-- A layout: whether mark, minute, account, lots and second number are named, and how many entries.
abbrev pub layout : Bool → Bool → Bool → Bool → Bool → ℕ → Layout
layout mark minute account lots second entries =
    record { mark = mark; minute = minute; account = account; lots = lots; second = second; entries = entries }

-- The letter with a byte in a table of letters.
abbrev pub lettered_by : {L : Type 0} → List (ℕ × L) → ℕ → Option L
lettered_by [] b = None
lettered_by (p ∷ ps) b = cond (b == p.0) (Some p.1) (lettered_by ps b)

-- What a byte is read as that names this letter, or none.
abbrev pub letter_or_refusal : {L : Type 0} → Option L → Result L Refusal
letter_or_refusal named = ok_or named UnknownLetter

-- A field is zero, unless it is named.
abbrev pub zero_unless : Bool → ℕ → Bool
zero_unless named n = named || n == 0

-- Every field that is not named is zero.
abbrev pub unnamed_zero : Layout → Fields → Bool
unnamed_zero l f =
    zero_unless l.mark f.mark && (zero_unless l.minute f.minute && (zero_unless l.account f.account
    && (zero_unless l.lots f.lots && (zero_unless l.second f.second && list_all (λ e. not (used e)) (drop l.entries f.entries)))))

-- A record with its letter known, or none of the kind: 2, 3, or the letter and the fields.
abbrev pub lettered : {L : Type 0} → (L → Layout) → Option L → Fields → Answer (L × Fields)
lettered layout None f = refused 2
lettered layout (Some letter) f = cond (unnamed_zero (layout letter) f) (granted (letter, f)) (refused 3)

-- Any bytes: 1 unless there are 64, then as above.
abbrev pub reading : {L : Type 0} → (ℕ → Option L) → (L → Layout) → List ℕ → Answer (L × Fields)
reading named layout bs = cond (length bs == 64) (lettered layout (named (fields bs).letter) (fields bs)) (refused 1)

-- An entry that is not used.
abbrev pub no_entry : BondLots
no_entry = record { bond = record { bytes = replicate 8 0 }; lots = 0 }

-- Four of them.
abbrev pub no_entries : List BondLots
no_entries = no_entry ∷ no_entry ∷ no_entry ∷ no_entry ∷ []

-- The fields of a record: letter, mark, minute, account, lots, second number and entries.
abbrev pub field_values : ℕ → ℕ → ℕ → ℕ → ℕ → ℕ → List BondLots → Fields
field_values letter mark minute account lots second entries =
    record { letter = letter; mark = mark; minute = minute; account = account; lots = lots; second = second; entries = entries }
