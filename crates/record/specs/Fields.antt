-- The 64 bytes of a record: where each field stands. Assumes nothing.
use Rattle.std.specs.Prelude.{ℕ, ◌+◌, List, [], ◌∷◌, ◌++◌, slice_index}
use Rattle.std.specs.List.{flat_map}
use Rattle.terms.specs.declared.calls.BondLots.{BondLots}
use Rattle.record.specs.Bytes.{value, bytes_of, part}
use Rattle.record.specs.declared.fields.Fields.{Fields}

-- A bond entry: eight bytes of code, then four of lots.
abbrev pub entry_at : ℕ → List ℕ → BondLots
entry_at at bs = record { bond = record { bytes = part at 8 bs }; lots = value (part (at + 8) 4 bs) }

-- The twelve bytes of an entry.
abbrev pub entry_bytes : BondLots → List ℕ
entry_bytes e = e.bond.bytes ++ bytes_of 4 e.lots

-- The fields of a record.
abbrev pub fields : List ℕ → Fields
fields bs = record {
  letter = slice_index bs 0;
  mark = slice_index bs 1;
  minute = value (part 2 2 bs);
  account = value (part 4 4 bs);
  lots = value (part 8 4 bs);
  second = value (part 12 4 bs);
  entries = entry_at 16 bs ∷ entry_at 28 bs ∷ entry_at 40 bs ∷ entry_at 52 bs ∷ [];
}

-- The record of fields: what stands before the entries, and the entries.
abbrev pub head_bytes : Fields → List ℕ
head_bytes f = f.letter ∷ f.mark ∷ (bytes_of 2 f.minute ++ (bytes_of 4 f.account ++ (bytes_of 4 f.lots ++ bytes_of 4 f.second)))

-- The record: the head, then the four entries.
abbrev pub laid_out : Fields → List ℕ
laid_out f = head_bytes f ++ flat_map entry_bytes f.entries
