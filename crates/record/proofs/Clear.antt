-- Fields that are not named are zero, as equations. Assumes nothing.
use Rattle.std.proofs.Common.{◌≡◌, ℕ, ◌+◌, ◌≤◌, true, false, not, eqb, List, [], ◌∷◌, length, get_or, drop, replicate, Some, sym, refl, ap, ◌∙◌, arith, length-drop, length-take}
use Rattle.std.specs.List.{AllByRecursion, list_all}
use Rattle.std.proofs.lemmas.Bool.{eqb-true, and_parts, or_parts, not-true, not-false}
use Rattle.std.proofs.ByRecursion.{All-get_or}
use Rattle.std.proofs.lemmas.List.Recursion.{and_at}
use Rattle.record.proofs.Blank.{same}
use Rattle.std.proofs.lemmas.Bool.Decides.{nat_tests}
use Rattle.terms.specs.Codes.{used}
use Rattle.terms.specs.declared.calls.BondLots.{BondLots}
use Rattle.record.specs.Bytes.{part}
use Rattle.record.specs.Fields.{fields}
use Rattle.record.specs.Layouts.{lettered_by, zero_unless, unnamed_zero, no_entry, field_values}
use Rattle.record.specs.declared.fields.Fields.{Fields}
use Rattle.record.specs.declared.tables.Layout.{Layout}

-- the byte of a letter, if the table gives each letter its byte
pub letter_byte : {L : Type 0} (byte : L → ℕ) (table : List (ℕ × L)) → AllByRecursion (λ p. byte p.1 ≡ p.0) table → (b : ℕ) (letter : L) →
    lettered_by table b ≡ Some letter → b ≡ byte letter
letter_byte byte [] h b letter e = let z : ◌≡◌ {A = ℕ} 0 1 = cc e in absurd (omega arith)
letter_byte byte (p ∷ ps) h b letter e = grind (arith, nat_tests, letter_byte byte ps h.1 b letter)

-- the fields that are zero, one by one
pub record Clear (l : Layout) (f : Fields) : Type 0 where
  pub mark : l.mark ≡ false → 0 ≡ f.mark
  pub minute : l.minute ≡ false → 0 ≡ f.minute
  pub account : l.account ≡ false → 0 ≡ f.account
  pub lots : l.lots ≡ false → 0 ≡ f.lots
  pub second : l.second ≡ false → 0 ≡ f.second
  pub entries : list_all (λ e. not (used e)) (drop l.entries f.entries) ≡ true

pub clear_parts : (l : Layout) (f : Fields) → unnamed_zero l f ≡ true → Clear l f
clear_parts l f h =
    record {
      mark = λ e. grind (arith, nat_tests);
      minute = λ e. grind (arith, nat_tests);
      account = λ e. grind (arith, nat_tests);
      lots = λ e. grind (arith, nat_tests);
      second = λ e. grind (arith, nat_tests);
      entries =
          (and_parts (zero_unless l.second f.second) _ (and_parts (zero_unless l.lots f.lots) _ (and_parts (zero_unless l.account f.account) _
          (and_parts (zero_unless l.minute f.minute) _ (and_parts (zero_unless l.mark f.mark) _ h).1).1).1).1).1;
    }

-- bytes that are all zero
zeros : (bs : List ℕ) → list_all (λ b. eqb b 0) bs ≡ true → replicate (length bs) 0 ≡ bs
zeros [] h = refl
zeros (b ∷ bs) h = grind (arith, nat_tests, zeros bs)

abbrev pub Code : BondLots → Type 0
Code e = length e.bond.bytes ≡ 8

pub unused_entry : (e : BondLots) → Code e → used e ≡ false → no_entry ≡ e
unused_entry e w h =
    let p = or_parts (not (eqb e.lots 0)) (not (list_all (λ b. eqb b 0) e.bond.bytes)) h in
    let lots = eqb-true e.lots 0 (not-false (eqb e.lots 0) p.0) in
    let code = ap (λ n. replicate n 0) (sym w) ∙ zeros e.bond.bytes (not-false (list_all (λ b. eqb b 0) e.bond.bytes) p.1) in
    λ i. record { bond = record { bytes = code i }; lots = sym lots i }

pub unused_all : (es : List BondLots) (n : ℕ) → length es ≡ n → AllByRecursion Code es → list_all (λ e. not (used e)) es ≡ true → replicate n no_entry ≡ es
unused_all es n l w h =
    let unused = and_at (list_all (λ e. not (used e))) (λ e. not (used e)) refl (λ _ _. refl) es in
    sym (same no_entry es n l (λ i d m. sym (unused_entry (get_or es i d) (All-get_or Code es i d m w) (not-true (used (get_or es i d)) (unused i d m h)))))

-- the codes of a record have eight bytes
pub codes : (bs : List ℕ) → length bs ≡ 64 → AllByRecursion Code (fields bs).entries
codes bs l = (eight 16 (omega arith), (eight 28 (omega arith), (eight 40 (omega arith), (eight 52 (omega arith), tt))))
  where
    eight : (at : ℕ) → at + 8 ≤ 64 → length (part at 8 bs) ≡ 8
    eight at h = length-take 8 (drop at bs) ∙ omega (arith, length-drop at bs)

pub same_fields : (f : Fields) {letter mark minute account lots second : ℕ} {entries : List BondLots} → letter ≡ f.letter → mark ≡ f.mark →
    minute ≡ f.minute → account ≡ f.account → lots ≡ f.lots → second ≡ f.second → entries ≡ f.entries →
    field_values letter mark minute account lots second entries ≡ f
same_fields f a b c d e g h = λ i. record { letter = a i; mark = b i; minute = c i; account = d i; lots = e i; second = g i; entries = h i }
