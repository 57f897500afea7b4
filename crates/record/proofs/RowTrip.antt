-- Rows and their records undo each other. Assumes nothing.
use Rattle.std.proofs.Common.{◌≡◌, ℕ, Bool, true, false, Option, cond, not, eqb, List, [], ◌∷◌, length, get_or, drop, IfOk, Some, None, Ok, Err, Result, sym, refl, ap, ◌∙◌, subst, arith, length-drop}
use Rattle.std.specs.List.{AllByRecursion, list_all}
use Rattle.std.proofs.ByRecursion.{All-get_or, All-drop}
use Rattle.std.proofs.lemmas.List.{drop_more}
use Rattle.std.proofs.lemmas.Bool.{true≢false, eqb-true}
use Rattle.terms.specs.Answers.{Answer, refused, granted, answered}
use Rattle.terms.specs.Codes.{used}
use Rattle.terms.specs.declared.calls.BondCode.{BondCode}
use Rattle.terms.specs.declared.calls.BondLots.{BondLots}
use Rattle.terms.specs.declared.refusals.Refusal.{Refusal}
use Rattle.terms.specs.Selection.{letter as class_letter}
use Rattle.terms.specs.declared.rows.Class.{Class}
use Rattle.terms.specs.declared.rows.Class.TheVariants.{Declared, Undeclared, Virtual}
use Rattle.terms.specs.declared.rows.Row.{Row}
use Rattle.terms.specs.declared.rows.Row.TheVariants.{Leg, Refused}
use Rattle.record.specs.Fields.{laid_out}
use Rattle.record.specs.Layouts.{no_entry}
use Rattle.record.specs.Rows.{row_letters, row_letter, row_layout, class_row, entry_one, leg_from, row_from, row_with, leg_entries, row_fields, row_bytes}
use Rattle.record.specs.declared.fields.Fields.{Fields}
use Rattle.record.specs.declared.letters.RowLetter.{RowLetter}
use Rattle.record.specs.declared.letters.RowLetter.TheVariants as by
use Rattle.record.proofs.Clear.{letter_byte, Clear, clear_parts, Code, unused_entry, unused_all, codes, same_fields}
use Rattle.record.proofs.Reading.{Read, is_granted}

abbrev row_byte : RowLetter → ℕ
row_byte by.Declared = 68
row_byte by.Undeclared = 85
row_byte by.Virtual = 86
row_byte by.Leg = 76
row_byte by.Refused = 90

-- what is known of the fields of a record with this letter
record Known (letter : RowLetter) (f : Fields) : Type 0 where
  byte : row_byte letter ≡ f.letter
  clear : Clear (row_layout letter) f
  long : length f.entries ≡ 4
  wide : AllByRecursion Code f.entries

known_from : (bs : List ℕ) (letter : RowLetter) (f : Fields) → Read row_letter row_layout bs letter f → Known letter f
known_from bs letter f r = record {
  byte = sym (letter_byte row_byte row_letters (refl, (refl, (refl, (refl, (refl, tt))))) f.letter letter r.called);
  clear = clear_parts (row_layout letter) f r.clear;
  long = ap (λ g. length g.entries) r.same;
  wide = subst (λ g. AllByRecursion Code g.entries) (sym r.same) (codes bs r.long);
}

-- an entry, then none
one_entry : (es : List BondLots) → length es ≡ 4 → AllByRecursion Code es → list_all (λ e. not (used e)) (drop 1 es) ≡ true →
    (get_or es 0 (record { bond = record { bytes = [] }; lots = 0 }) ∷ no_entry ∷ no_entry ∷ no_entry ∷ [] ≡ es)
    × Code (get_or es 0 (record { bond = record { bytes = [] }; lots = 0 }))
one_entry es l w h =
    let none : BondLots = record { bond = record { bytes = [] }; lots = 0 } in
    let rest = unused_all (drop 1 es) 3 (length-drop 1 es ∙ omega arith) (All-drop Code 1 es w) h in
    (ap (λ t. get_or es 0 none ∷ t) rest ∙ sym (drop_more es 0 none (omega arith)), All-get_or Code es 0 none (omega arith) w)

leg_read : (f : Fields) (row : Row) (bond : Option BondCode) (first : BondLots) → Known by.Leg f → row ≡ Leg f.account f.second f.lots bond →
    leg_entries f.lots bond ≡ first ∷ no_entry ∷ no_entry ∷ no_entry ∷ [] → first ≡ entry_one f → row_fields row ≡ f
leg_read f row bond first k r h e =
    let o = one_entry f.entries k.long k.wide k.clear.entries in
    ap row_fields r ∙ same_fields f k.byte (k.clear.mark refl) (k.clear.minute refl) refl refl refl (h ∙ ap (λ x. x ∷ no_entry ∷ no_entry ∷ no_entry ∷ []) e ∙ o.0)

leg_kept : (f : Fields) (row : Row) → Known by.Leg f → granted row ≡ leg_from f → row_fields row ≡ f
leg_kept f row k e = each (used (entry_one f)) refl (eqb (entry_one f).lots f.lots) refl e
  where
    each : (u : Bool) → used (entry_one f) ≡ u → (t : Bool) → eqb (entry_one f).lots f.lots ≡ t →
        granted row ≡ cond u (cond t (granted (Leg f.account f.second f.lots (Some (entry_one f).bond))) (refused 3)) (granted (Leg f.account f.second f.lots None)) →
        row_fields row ≡ f
    each true u true t e =
        let lots = eqb-true (entry_one f).lots f.lots t in
        leg_read f row (Some (entry_one f).bond) (record { bond = (entry_one f).bond; lots = f.lots }) k (cc e) refl (λ i. record { bond = (entry_one f).bond; lots = sym lots i })
    each true u false t e = absurd (true≢false (ap is_granted e))
    each false u t s e = leg_read f row None no_entry k (cc e) refl (unused_entry (entry_one f) (one_entry f.entries k.long k.wide k.clear.entries).1 u)

-- lots of a class
class_kept : (letter : RowLetter) (class : Class) (f : Fields) (row : Row) → Known letter f → class_letter class ≡ row_byte letter →
    row_layout letter ≡ row_layout by.Declared → granted row ≡ granted (class_row class f) → row_fields row ≡ f
class_kept letter class f row k b l e =
    let r : row ≡ class_row class f = cc e in
    let c = subst (λ x. Clear x f) l k.clear in
    ap row_fields r ∙ same_fields f (b ∙ k.byte) (c.mark refl) (c.minute refl) refl refl refl (unused_all f.entries 4 k.long k.wide c.entries)

kept : (letter : RowLetter) (f : Fields) (row : Row) → Known letter f → granted row ≡ row_from letter f → row_fields row ≡ f
kept by.Declared f row k e = class_kept by.Declared Declared f row k refl refl e
kept by.Undeclared f row k e = class_kept by.Undeclared Undeclared f row k refl refl e
kept by.Virtual f row k e = class_kept by.Virtual Virtual f row k refl refl e
kept by.Leg f row k e = leg_kept f row k e
kept by.Refused f row k e =
    let r : row ≡ Refused f.lots = cc e in
    let c = k.clear in
    ap row_fields r ∙ same_fields f k.byte (c.mark refl) (c.minute refl) (c.account refl) refl (c.second refl) (unused_all f.entries 4 k.long k.wide c.entries)

-- what is granted is not refused
granted_unless : {A : Type 0} (b : Bool) (n : ℕ) (x : A) (r : Answer A) → granted x ≡ cond b (refused n) r → granted x ≡ r
granted_unless true n x r e = absurd (true≢false (ap is_granted e))
granted_unless false n x r e = e

-- a row that is read is written as the bytes that were read
pub row_only : (bs : List ℕ) (letter : RowLetter) (f : Fields) (r : Result Row Refusal) → Read row_letter row_layout bs letter f → laid_out f ≡ bs →
    answered r ≡ row_with letter f → IfOk r (λ row. row_bytes row ≡ bs)
row_only bs letter f (Ok row) k b e =
    ap laid_out (kept letter f row (known_from bs letter f k) (granted_unless (eqb f.lots 0) 3 row (row_from letter f) e)) ∙ b
row_only bs letter f (Err x) k b e = tt
