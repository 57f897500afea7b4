use Rattle.std.proofs.Common.{◌≡◌, ◌++◌, length, map, sym, ap, ◌∙◌, append-nil, arith, rules}
use Rattle.std.proofs.lemmas.List.{same_lists, length-map, get_or-map}
use Rattle.std.proofs.lemmas.List.Elements.{recursion_from_All}
use Rattle.std.proofs.lemmas.List.Folds.{flat_map-map}
use Rattle.std.specs.List.{flat_map}
use Rattle.record.specs.Fields.{entry_bytes, head_bytes, fields}
use Rattle.record.specs.Layouts.{no_entry}
use Rattle.record.specs.Widths.{EntryFits}
use Rattle.record.proofs.Widths.{fields_back}
use Rattle.record.proofs.writes.record_of.Goals as goal

pub returns-clause-back : goal.returns-clause-back
returns-clause-back c =
    let f = c.args.f.now in
    let bs = c.map-entries.result in
    let made = c.map-entries.ensures.items in
    let four : length f.entries ≡ 4 = search rules in
    let long : length bs ≡ length f.entries = omega (arith, made.long) in
    let all = recursion_from_All EntryFits f.entries (λ i e k. let w = made.at i e (entry_bytes e) (omega arith) in search rules) in
    let items : bs ≡ map entry_bytes f.entries =
    same_lists bs (map entry_bytes f.entries) (long ∙ sym (length-map f.entries entry_bytes))
    (λ i b k. let w = made.at i no_entry b (omega arith) in search (rules, get_or-map)) in
    let head = c.copy_from_slice.ensures.after ∙ c.head_bytes.ensures.bytes in
    let tail = append-nil c.copy_from_slice-2.new.self ∙ c.copy_from_slice-2.ensures.after ∙ c.as_flattened.ensures.value ∙ ap (flat_map (λ b. b)) items
    ∙ flat_map-map (λ b. b) entry_bytes f.entries in
    rw head (ap (λ t. fields (head_bytes f ++ t)) tail ∙ fields_back f c.head_bytes.ensures.fits four all)
