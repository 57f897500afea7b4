-- Calls as records. Assumes nothing.
use Rattle.std.specs.Prelude.{ℕ, true, false, List, [], ◌∷◌, Some, None, Option}
use Rattle.std.specs.Option.{option_map}
use Rattle.terms.specs.Answers.{Answer, refused, granted}
use Rattle.terms.specs.declared.calls.Call.{Call}
use Rattle.terms.specs.declared.calls.Call.TheVariants.{Trade, DeclarePurchase, DeclareSale, Withdraw, OpenTrial, KeepTrial, DropTrial, Preview, Draw, LegResult, NextDay}
use Rattle.record.specs.Fields.{laid_out}
use Rattle.record.specs.Layouts.{layout, lettered_by, reading, no_entries, field_values}
use Rattle.record.specs.declared.fields.Fields.{Fields}
use Rattle.record.specs.declared.letters.CallLetter.{CallLetter}
use Rattle.record.specs.declared.letters.CallLetter.TheVariants as by
use Rattle.record.specs.declared.tables.Layout.{Layout}

-- The letters: T B S W O K X R N E.
abbrev pub call_letters : List (ℕ × CallLetter)
call_letters = (84, by.Trade) ∷ (66, by.DeclarePurchase) ∷ (83, by.DeclareSale) ∷ (87, by.Withdraw) ∷ (79, by.OpenTrial) ∷ (75, by.KeepTrial)
    ∷ (88, by.DropTrial) ∷ (82, by.Draw) ∷ (78, by.NextDay) ∷ (69, by.LegResult) ∷ []

-- The letter with a byte.
abbrev pub call_letter : ℕ → Option CallLetter
call_letter b = lettered_by call_letters b

-- What each letter names.
abbrev pub call_layout : CallLetter → Layout
call_layout by.Trade = layout false false true true true 0
call_layout by.DeclarePurchase = layout false true true true false 0
call_layout by.DeclareSale = layout false true true true false 4
call_layout by.Withdraw = layout false true true false false 0
call_layout by.OpenTrial = layout false false false false false 0
call_layout by.KeepTrial = layout false false false false false 0
call_layout by.DropTrial = layout false false false false false 0
call_layout by.Draw = layout false false false false false 0
call_layout by.NextDay = layout false false false false false 0
call_layout by.LegResult = layout true false false true true 0

-- The call that a letter and fields give.
abbrev pub call_from : CallLetter → Fields → Call
call_from by.Trade f = Trade f.account f.second f.lots
call_from by.DeclarePurchase f = DeclarePurchase f.minute f.account f.lots
call_from by.DeclareSale f = DeclareSale f.minute f.account f.lots f.entries
call_from by.Withdraw f = Withdraw f.minute f.account
call_from by.OpenTrial f = OpenTrial
call_from by.KeepTrial f = KeepTrial
call_from by.DropTrial f = DropTrial
call_from by.Draw f = Draw
call_from by.NextDay f = NextDay
call_from by.LegResult f = LegResult f.second f.mark f.lots

-- The call that bytes are, or the number of the first check that fails.
abbrev pub call_answer : Answer (CallLetter × Fields) → Answer Call
call_answer (refused n) = refused n
call_answer (granted p) = granted (call_from p.0 p.1)

-- The call that any bytes are.
abbrev pub read_call : List ℕ → Answer Call
read_call bs = call_answer (reading call_letter call_layout bs)

-- The fields of a call; a preview has no record.
abbrev pub call_fields : Call → Option Fields
call_fields (Trade buyer seller lots) = Some (field_values 84 0 0 buyer lots seller no_entries)
call_fields (DeclarePurchase minute account lots) = Some (field_values 66 0 minute account lots 0 no_entries)
call_fields (DeclareSale minute account lots bonds) = Some (field_values 83 0 minute account lots 0 bonds)
call_fields (Withdraw minute account) = Some (field_values 87 0 minute account 0 0 no_entries)
call_fields OpenTrial = Some (field_values 79 0 0 0 0 0 no_entries)
call_fields KeepTrial = Some (field_values 75 0 0 0 0 0 no_entries)
call_fields DropTrial = Some (field_values 88 0 0 0 0 0 no_entries)
call_fields (Preview day) = None
call_fields Draw = Some (field_values 82 0 0 0 0 0 no_entries)
call_fields (LegResult leg mark unfinished) = Some (field_values 69 mark 0 0 unfinished leg no_entries)
call_fields NextDay = Some (field_values 78 0 0 0 0 0 no_entries)

-- The bytes that a call is written as.
abbrev pub call_bytes : Call → Option (List ℕ)
call_bytes c = option_map laid_out (call_fields c)
