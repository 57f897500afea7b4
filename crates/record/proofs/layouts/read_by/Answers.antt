use Rattle.std.proofs.Common.{sym, ap, ◌∙◌, arith}
use Rattle.std.proofs.lemmas.Bool.{cond-true, cond-false}
use Rattle.std.specs.Result.{result_ok}
use Rattle.terms.specs.Answers.{refused, granted}
use Rattle.record.specs.Fields.{laid_out}
use Rattle.record.specs.Layouts.{unnamed_zero}
use Rattle.record.proofs.Parts.{laid_fields}
use Rattle.record.proofs.Reading.{fields_there, reading_known}
use Rattle.record.proofs.layouts.read_by.Goals as goal

pub returns-then-not-is_kept-clause-answer : goal.returns-then-not-is_kept-clause-answer
returns-then-not-is_kept-clause-answer g c =
    let f = c.in_ok-fields.fields in
    let l = c.in_ok-letter.letter in
    let there = sym (c.ok_or.ensures.ok_part ∙ ap result_ok c.in_ok-fields.was) in
    let letter = sym c.in_ok-letter.was ∙ g.met.L.Letter.reads_named f.letter c.try_from.result c.try_from.ensures in
    let read = reading_known g.L.Letter.named g.L.Letter.laid c.args.bytes.now f l (there ∙ c.fields_of.ensures) letter in
    let no = ap (λ k. unnamed_zero k f) (sym c.layout.ensures) ∙ sym c.is_kept.ensures ∙ c.if-not-is_kept.true in
    sym (read ∙ cond-false (unnamed_zero (g.L.Letter.laid l) f) (granted (l, f)) (refused 3) no)

pub returns : goal.returns
returns g c =
    let f = c.in_ok-fields.fields in
    let l = c.in_ok-letter.letter in
    let there = sym (c.ok_or.ensures.ok_part ∙ ap result_ok c.in_ok-fields.was) in
    let letter = sym c.in_ok-letter.was ∙ g.met.L.Letter.reads_named f.letter c.try_from.result c.try_from.ensures in
    let read = reading_known g.L.Letter.named g.L.Letter.laid c.args.bytes.now f l (there ∙ c.fields_of.ensures) letter in
    let yes = ap (λ k. unnamed_zero k f) (sym c.layout.ensures) ∙ sym c.is_kept.ensures ∙ c.if-not-is_kept.false in
    let whole = fields_there g.L.Letter.named g.L.Letter.laid c.args.bytes.now f (there ∙ c.fields_of.ensures) in
    record {
      answer = sym (read ∙ cond-true (unnamed_zero (g.L.Letter.laid l) f) (granted (l, f)) (refused 3) yes);
      back = ap laid_out whole.1 ∙ laid_fields c.args.bytes.now whole.0 (λ i. omega (arith, c.type_inv.bytes i));
    }
