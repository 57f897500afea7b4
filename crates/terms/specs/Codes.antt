-- Bond codes, and the entries of a seller's declaration. Assumes nothing.
use Rattle.std.specs.Prelude.{ℕ, Bool, not, ◌&&◌, ◌||◌, ◌==◌, nat_eq, nat_le}
use Rattle.std.specs.List.{list_all}
use Rattle.terms.specs.declared.calls.BondCode.{BondCode}
use Rattle.terms.specs.declared.calls.BondLots.{BondLots}

-- A number lies between two others, both included.
abbrev pub between : ℕ → ℕ → ℕ → Bool
between low high n = nat_le low n && nat_le n high

-- Every byte is a visible ASCII character.
abbrev pub visible : BondCode → Bool
visible code = list_all (between 33 126) code.bytes

-- An entry is used unless its lots and all bytes of its code are zero.
abbrev pub used : BondLots → Bool
used e = not (e.lots == 0) || not (list_all (λ b. nat_eq b 0) e.bond.bytes)
