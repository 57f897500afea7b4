-- Calls and their records undo each other. Assumes nothing.
use Rattle.std.proofs.Common.{◌≡◌, ℕ, cond, not, List, length, drop, Some, sym, refl, ap, ◌∙◌, subst, arith}
use Rattle.std.specs.List.{AllByRecursion, list_all}
use Rattle.std.proofs.lemmas.List.{drop_all}
use Rattle.terms.specs.Answers.{refused, granted}
use Rattle.terms.specs.Codes.{used}
use Rattle.terms.specs.declared.calls.Call.{Call}
use Rattle.terms.specs.declared.calls.Call.TheVariants.{Trade, DeclarePurchase, DeclareSale, Withdraw, OpenTrial, KeepTrial, DropTrial, Preview, Draw, LegResult, NextDay}
use Rattle.record.specs.Calls.{call_letters, call_letter, call_layout, call_from, call_answer, call_fields, read_call}
use Rattle.record.specs.Fields.{fields}
use Rattle.record.specs.Layouts.{lettered, no_entries, field_values}
use Rattle.record.specs.declared.fields.Fields.{Fields}
use Rattle.record.specs.declared.letters.CallLetter.{CallLetter}
use Rattle.record.specs.declared.letters.CallLetter.TheVariants as by
use Rattle.record.proofs.Clear.{letter_byte, Clear, clear_parts, Code, unused_all, codes, same_fields}
use Rattle.record.proofs.Reading.{Read, reading_whole}

abbrev call_byte : CallLetter → ℕ
call_byte by.Trade = 84
call_byte by.DeclarePurchase = 66
call_byte by.DeclareSale = 83
call_byte by.Withdraw = 87
call_byte by.OpenTrial = 79
call_byte by.KeepTrial = 75
call_byte by.DropTrial = 88
call_byte by.Draw = 82
call_byte by.NextDay = 78
call_byte by.LegResult = 69

-- with the letter known and the other fields zero, the call's fields are those read
known : (letter : CallLetter) (f : Fields) → call_byte letter ≡ f.letter → Clear (call_layout letter) f →
    (drop (call_layout letter).entries f.entries ≡ f.entries → no_entries ≡ f.entries) → call_fields (call_from letter f) ≡ Some f
known by.Trade f l c e = ap Some (same_fields f l (c.mark refl) (c.minute refl) refl refl refl (e refl))
known by.DeclarePurchase f l c e = ap Some (same_fields f l (c.mark refl) refl refl refl (c.second refl) (e refl))
known by.DeclareSale f l c e = ap Some (same_fields f l (c.mark refl) refl refl refl (c.second refl) refl)
known by.Withdraw f l c e = ap Some (same_fields f l (c.mark refl) refl refl (c.lots refl) (c.second refl) (e refl))
known by.OpenTrial f l c e = ap Some (same_fields f l (c.mark refl) (c.minute refl) (c.account refl) (c.lots refl) (c.second refl) (e refl))
known by.KeepTrial f l c e = ap Some (same_fields f l (c.mark refl) (c.minute refl) (c.account refl) (c.lots refl) (c.second refl) (e refl))
known by.DropTrial f l c e = ap Some (same_fields f l (c.mark refl) (c.minute refl) (c.account refl) (c.lots refl) (c.second refl) (e refl))
known by.Draw f l c e = ap Some (same_fields f l (c.mark refl) (c.minute refl) (c.account refl) (c.lots refl) (c.second refl) (e refl))
known by.NextDay f l c e = ap Some (same_fields f l (c.mark refl) (c.minute refl) (c.account refl) (c.lots refl) (c.second refl) (e refl))
known by.LegResult f l c e = ap Some (same_fields f l refl (c.minute refl) (c.account refl) refl refl (e refl))

-- a call that is read has the fields that were read
pub call_kept : (bs : List ℕ) (letter : CallLetter) (f : Fields) → Read call_letter call_layout bs letter f → call_fields (call_from letter f) ≡ Some f
call_kept bs letter f r =
    let clear = clear_parts (call_layout letter) f r.clear in
    let byte = letter_byte call_byte call_letters (refl, (refl, (refl, (refl, (refl, (refl, (refl, (refl, (refl, (refl, tt)))))))))) f.letter letter r.called in
    let long : length f.entries ≡ 4 = ap (λ g. length g.entries) r.same in
    let wide = subst (λ g. AllByRecursion Code g.entries) (sym r.same) (codes bs r.long) in
    known letter f (sym byte) clear
    (λ e. unused_all f.entries 4 long wide (sym (ap (list_all (λ x. not (used x))) e) ∙ clear.entries))

-- the fields of a call are read as that call
taken : {call : Call} {f g : Fields} → Some g ≡ Some f → call_answer (lettered call_layout (call_letter g.letter) g) ≡ granted call →
    call_answer (lettered call_layout (call_letter f.letter) f) ≡ granted call
taken {call} {f} {g} e h = let p : g ≡ f = cc e in subst (λ x. call_answer (lettered call_layout (call_letter x.letter) x) ≡ granted call) p h

as_call : (call : Call) (f : Fields) → call_fields call ≡ Some f → length f.entries ≡ 4 → call_answer (lettered call_layout (call_letter f.letter) f) ≡ granted call
as_call (Trade b s n) f e l = taken e refl
as_call (DeclarePurchase m a n) f e l = taken e refl
as_call (DeclareSale m a n bonds) f e l =
    let g = field_values 83 0 m a n 0 bonds in
    let p : g ≡ f = cc e in
    let none = drop_all 4 bonds (omega (arith, ap (λ x. length x.entries) p)) in
    taken e (ap (λ es. call_answer (cond (list_all (λ x. not (used x)) es) (granted (by.DeclareSale, g)) (refused 3))) none)
as_call (Withdraw m a) f e l = taken e refl
as_call OpenTrial f e l = taken e refl
as_call KeepTrial f e l = taken e refl
as_call DropTrial f e l = taken e refl
as_call (Preview d) f e l = let z : ◌≡◌ {A = ℕ} 0 1 = cc e in absurd (omega arith)
as_call Draw f e l = taken e refl
as_call (LegResult g m u) f e l = taken e refl
as_call NextDay f e l = taken e refl

pub call_read : (call : Call) (f : Fields) (bs : List ℕ) → call_fields call ≡ Some f → length bs ≡ 64 → fields bs ≡ f → read_call bs ≡ granted call
call_read call f bs e l s = ap call_answer (reading_whole call_letter call_layout bs f l (sym s)) ∙ as_call call f e (ap (λ g. length g.entries) (sym s))
