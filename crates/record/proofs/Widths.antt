-- A record that is put together has the fields that it was made of. Assumes nothing.
use Rattle.std.proofs.Common.{◌≡◌, ℕ, zero, suc, ◌+◌, ◌*◌, ◌<◌, get_or, List, [], ◌∷◌, ◌++◌, length, take, drop, sym, refl, ap, ◌∙◌, append_assoc, arith, length-append, drop-drop, take_at, drop_at}
use lib.Seq.{drop-append-add}
use Rattle.std.specs.List.{flat_map, AllByRecursion}
use Rattle.terms.specs.declared.calls.BondLots.{BondLots}
use Rattle.record.specs.Bytes.{value, bytes_of, part}
use Rattle.record.specs.Fields.{entry_at, entry_bytes, fields, laid_out}
use Rattle.record.specs.Layouts.{no_entry}
use Rattle.record.specs.Widths.{EntryFits, HeadFits}
use Rattle.record.specs.declared.fields.Fields.{Fields}

-- the entry at the front
entry_front : (e : BondLots) (rest : List ℕ) → EntryFits e → entry_at 0 (entry_bytes e ++ rest) ≡ e
entry_front e rest h =
    let whole = append_assoc e.bond.bytes (bytes_of 4 e.lots) rest in
    let code : part 0 8 (entry_bytes e ++ rest) ≡ e.bond.bytes = ap (take 8) whole ∙ take_at e.bond.bytes (bytes_of 4 e.lots ++ rest) 8 h.code in
    let lots : value (part 8 4 (entry_bytes e ++ rest)) ≡ e.lots =
    ap (λ t. value (take 4 t)) (ap (drop 8) whole ∙ drop_at e.bond.bytes (bytes_of 4 e.lots ++ rest) 8 h.code) ∙ h.lots in
    λ i. record { bond = record { bytes = code i }; lots = lots i }

-- an entry is that of the rest that it begins
entry_from : (at : ℕ) (xs : List ℕ) → entry_at 0 (drop at xs) ≡ entry_at at xs
entry_from at xs = λ i. record { bond = record { bytes = part at 8 xs }; lots = value (take 4 (drop-drop 8 at xs i)) }

-- the entry at each place
entry_there : (es : List BondLots) → AllByRecursion EntryFits es → (k : ℕ) (d : BondLots) → k < length es → entry_at (12 * k) (flat_map entry_bytes es) ≡ get_or es k d
entry_there [] h k d l = absurd (omega arith)
entry_there (e ∷ es) h zero d l = entry_front e (flat_map entry_bytes es) h.0
entry_there (e ∷ es) h (suc k) d l =
    let rest = flat_map entry_bytes es in
    let next : length (entry_bytes e) + 12 * k ≡ 12 * suc k = omega (arith, length-append e.bond.bytes (bytes_of 4 e.lots), h.0.code) in
    let past = ap (λ n. drop n (entry_bytes e ++ rest)) (sym next) ∙ drop-append-add (entry_bytes e) rest (12 * k) in
    sym (entry_from (12 * suc k) (entry_bytes e ++ rest)) ∙ ap (entry_at 0) past ∙ entry_from (12 * k) rest ∙ entry_there es h.1 k d (omega arith)

-- four entries
four : (es : List BondLots) (d : BondLots) → length es ≡ 4 → get_or es 0 d ∷ get_or es 1 d ∷ get_or es 2 d ∷ get_or es 3 d ∷ [] ≡ es
four (a ∷ b ∷ c ∷ e ∷ []) d l = refl
four es d l = absurd (omega arith)

-- the fields come back
pub fields_back : (f : Fields) → HeadFits f → length f.entries ≡ 4 → AllByRecursion EntryFits f.entries → fields (laid_out f) ≡ f
fields_back f h long all =
    let at = entry_there f.entries all in
    let e₀ = at 0 no_entry (omega arith) in
    let e₁ = at 1 no_entry (omega arith) in
    let e₂ = at 2 no_entry (omega arith) in
    let e₃ = at 3 no_entry (omega arith) in
    let all_four = four f.entries no_entry long in
    λ i. record {
      letter = f.letter;
      mark = f.mark;
      minute = h.minute i;
      account = h.account i;
      lots = h.lots i;
      second = h.second i;
      entries = ((λ j. e₀ j ∷ e₁ j ∷ e₂ j ∷ e₃ j ∷ []) ∙ all_four) i;
    }
