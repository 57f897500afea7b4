-- Fields as wide as a record has them: codes of eight bytes, and numbers that their bytes give back. Assumes nothing.
use Rattle.std.specs.Prelude.{◌≡◌, length}
use Rattle.terms.specs.declared.calls.BondLots.{BondLots}
use Rattle.record.specs.Bytes.{value, bytes_of}
use Rattle.record.specs.declared.fields.Fields.{Fields}

-- An entry.
pub record EntryFits (e : BondLots) : Type 0 where
  pub code : length e.bond.bytes ≡ 8
  pub lots : value (bytes_of 4 e.lots) ≡ e.lots

-- What stands before the entries.
pub record HeadFits (f : Fields) : Type 0 where
  pub minute : value (bytes_of 2 f.minute) ≡ f.minute
  pub account : value (bytes_of 4 f.account) ≡ f.account
  pub lots : value (bytes_of 4 f.lots) ≡ f.lots
  pub second : value (bytes_of 4 f.second) ≡ f.second
