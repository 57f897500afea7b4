-- Rows as records. Assumes nothing.
use Rattle.std.specs.Prelude.{ℕ, true, false, cond, List, [], ◌∷◌, Some, None, Option, ◌==◌, slice_index_or}
use Rattle.terms.specs.Answers.{Answer, refused, granted}
use Rattle.terms.specs.Codes.{used}
use Rattle.terms.specs.Selection.{letter}
use Rattle.terms.specs.declared.calls.BondCode.{BondCode}
use Rattle.terms.specs.declared.calls.BondLots.{BondLots}
use Rattle.terms.specs.declared.rows.Class.{Class}
use Rattle.terms.specs.declared.rows.Class.TheVariants.{Declared, Undeclared, Virtual}
use Rattle.terms.specs.declared.rows.Row.{Row}
use Rattle.terms.specs.declared.rows.Row.TheVariants.{ClassLots, Leg, Refused}
use Rattle.record.specs.Fields.{laid_out}
use Rattle.record.specs.Layouts.{layout, lettered_by, reading, no_entry, no_entries, field_values}
use Rattle.record.specs.declared.fields.Fields.{Fields}
use Rattle.record.specs.declared.letters.RowLetter.{RowLetter}
use Rattle.record.specs.declared.letters.RowLetter.TheVariants as by
use Rattle.record.specs.declared.tables.Layout.{Layout}

-- The letters: D U V L Z.
abbrev pub row_letters : List (ℕ × RowLetter)
row_letters = (68, by.Declared) ∷ (85, by.Undeclared) ∷ (86, by.Virtual) ∷ (76, by.Leg) ∷ (90, by.Refused) ∷ []

-- The letter with a byte.
abbrev pub row_letter : ℕ → Option RowLetter
row_letter b = lettered_by row_letters b

-- The letter of a class.
abbrev pub class_letter : Class → RowLetter
class_letter Declared = by.Declared
class_letter Undeclared = by.Undeclared
class_letter Virtual = by.Virtual

-- What each letter names.
abbrev pub row_layout : RowLetter → Layout
row_layout by.Declared = layout false false true true true 0
row_layout by.Undeclared = layout false false true true true 0
row_layout by.Virtual = layout false false true true true 0
row_layout by.Leg = layout false false true true true 1
row_layout by.Refused = layout false false false true false 0

-- The row of lots of a class.
abbrev pub class_row : Class → Fields → Row
class_row c f = ClassLots c f.account f.second f.lots

-- Entry one of a record; a list without entries would give none.
abbrev pub entry_one : Fields → BondLots
entry_one f = slice_index_or f.entries 0 (record { bond = record { bytes = [] }; lots = 0 })

-- The leg: without a bond if entry one is all zero, and else with its bond, if it has the leg's lots.
abbrev pub leg_from : Fields → Answer Row
leg_from f = cond (used (entry_one f))
    (cond ((entry_one f).lots == f.lots) (granted (Leg f.account f.second f.lots (Some (entry_one f).bond))) (refused 3))
    (granted (Leg f.account f.second f.lots None))

-- The row that a letter and fields give.
abbrev pub row_from : RowLetter → Fields → Answer Row
row_from by.Declared f = granted (class_row Declared f)
row_from by.Undeclared f = granted (class_row Undeclared f)
row_from by.Virtual f = granted (class_row Virtual f)
row_from by.Leg f = leg_from f
row_from by.Refused f = granted (Refused f.lots)

-- A row has lots.
abbrev pub row_with : RowLetter → Fields → Answer Row
row_with letter f = cond (f.lots == 0) (refused 3) (row_from letter f)

-- The row that bytes are, or the number of the first check that fails.
abbrev pub row_answer : Answer (RowLetter × Fields) → Answer Row
row_answer (refused n) = refused n
row_answer (granted p) = row_with p.0 p.1

-- The row that any bytes are.
abbrev pub read_row : List ℕ → Answer Row
read_row bs = row_answer (reading row_letter row_layout bs)

-- The entries of a leg: its bond with its lots, or none.
abbrev pub leg_entries : ℕ → Option BondCode → List BondLots
leg_entries lots (Some code) = record { bond = code; lots = lots } ∷ no_entry ∷ no_entry ∷ no_entry ∷ []
leg_entries lots None = no_entries

-- The fields of a row.
abbrev pub row_fields : Row → Fields
row_fields (ClassLots class account day lots) = field_values (letter class) 0 0 account lots day no_entries
row_fields (Leg seller buyer lots bond) = field_values 76 0 0 seller lots buyer (leg_entries lots bond)
row_fields (Refused number) = field_values 90 0 0 0 number 0 no_entries

-- The bytes that a row is written as.
abbrev pub row_bytes : Row → List ℕ
row_bytes r = laid_out (row_fields r)

-- The lots of a row; a refusal's number stands in their place.
abbrev pub row_lots : Row → ℕ
row_lots (ClassLots class account day lots) = lots
row_lots (Leg seller buyer lots bond) = lots
row_lots (Refused number) = number
