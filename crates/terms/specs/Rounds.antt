-- What a round selects and writes: the selected lots by class, day and account, then the legs. Assumes nothing.
use Rattle.std.specs.Prelude.{ℕ, ◌-◌, min, cond, List, [], ◌∷◌, ◌++◌, map, Some, None, sum_by, Option, ◌==◌, nat_lt}
use Rattle.std.specs.List.{flat_map}
use Rattle.terms.specs.Month.{Month, final, lots_there, holders, purchase_days, effective_sale, declared_bonds}
use Rattle.terms.specs.OddLots.{OddLotRule}
use Rattle.terms.specs.Selection.{Selection, taken_from}
use Rattle.terms.specs.Pairs.{unsold, unbought}
use Rattle.terms.specs.Lines.{Part, part}
use Rattle.terms.specs.declared.calls.BondCode.{BondCode}
use Rattle.terms.specs.declared.calls.BondLots.{BondLots}
use Rattle.terms.specs.declared.rows.Class.{Class}
use Rattle.terms.specs.declared.rows.Class.TheVariants.{Declared, Undeclared, Virtual}
use Rattle.terms.specs.declared.rows.Row.{Row}
use Rattle.terms.specs.declared.rows.Row.TheVariants.{ClassLots, Leg}

-- The lots of the accounts with lots of a class and day, in rising account order.
abbrev pub asked : Month → Class → ℕ → List ℕ
asked m c d = map (λ a. lots_there m a d c) (holders m c d)

-- All lots of a class and day.
abbrev pub group_size : Month → Class → ℕ → ℕ
group_size m c d = sum_by (λ a. lots_there m a d c) (holders m c d)

-- All lots of a class.
unfoldable pub class_size : Month → Class → ℕ
class_size m c = sum_by (group_size m c) (purchase_days m)

-- The lots that the sellers deliver in all.
unfoldable pub to_deliver : Month → ℕ
to_deliver m = sum_by (effective_sale m) m.accounts

-- The lots still wanted when a class's turn comes.
abbrev pub wanted : Month → Class → ℕ
wanted m Declared = to_deliver m
wanted m Undeclared = to_deliver m - class_size m Declared
wanted m Virtual = to_deliver m - class_size m Declared - class_size m Undeclared

-- The lots of the days before day d, t giving the lots of each day.
abbrev pub before : (ℕ → ℕ) → List ℕ → ℕ → ℕ
before t days d = sum_by (λ e. cond (nat_lt e d) (t e) 0) days

-- What day d gives of n lots that are taken from the oldest days first.
abbrev pub fill : (ℕ → ℕ) → ℕ → List ℕ → ℕ → ℕ
fill t n days d = min (n - before t days d) (t d)

-- The number of lots taken from a class and day.
abbrev pub amount : Month → Class → ℕ → ℕ
amount m c d = fill (group_size m c) (wanted m c) (purchase_days m) d

-- The part of an account, the parts standing in the order of the accounts.
abbrev pub part_of : ℕ → List ℕ → List ℕ → ℕ
part_of a [] ps = 0
part_of a (x ∷ xs) [] = 0
part_of a (x ∷ xs) (p ∷ ps) = cond (x == a) p (part_of a xs ps)

-- The selection of a round: of each class and day the number taken there, shared out by the odd-lot rule.
abbrev pub chosen : OddLotRule → Month → Selection
chosen share m a d c = part_of a (holders m c d) (share (asked m c d) (amount m c d))

-- The class of the lots that no declaration covers.
abbrev pub other_class : Month → Class
other_class m = cond (final m) Virtual Undeclared

-- The row of some lots; none without lots.
abbrev pub lots_row : Class → ℕ → ℕ → ℕ → List Row
lots_row c a d n = cond (n == 0) [] (ClassLots c a d n ∷ [])

-- The rows of a class and day, by account.
abbrev pub group_rows : Selection → Class → List ℕ → ℕ → List Row
group_rows sel c accounts d = flat_map (λ a. lots_row c a d (sel a d c)) accounts

-- The rows of a selection, by class, day and account.
abbrev pub selection_rows : Month → Selection → List Row
selection_rows m sel = flat_map (group_rows sel Declared m.accounts) (purchase_days m) ++ flat_map (group_rows sel (other_class m) m.accounts) (purchase_days m)

-- Lots that a seller brings to a list of pairs, of one bond or of none.
pub record Piece : Type 0 where
  pub seller : ℕ
  pub bond : Option BondCode
  pub lots : ℕ

-- A piece, from its seller, bond and lots.
abbrev pub piece : ℕ → Option BondCode → ℕ → Piece
piece s b n = record { seller = s; bond = b; lots = n }

-- A seller's bonds fill n lots in declared order.
abbrev pub bond_pieces : ℕ → ℕ → List BondLots → List Piece
bond_pieces s n [] = []
bond_pieces s n (b ∷ bs) = piece s (Some b.bond) (min n b.lots) ∷ bond_pieces s (n - b.lots) bs

-- The sellers' line of the first list: their effective lots, bond by bond.
abbrev pub delivery_pieces : Month → List Piece
delivery_pieces m = flat_map (λ a. bond_pieces a (effective_sale m a) (declared_bonds (m.declarations a))) m.accounts

-- The sellers' line of the second list, without bonds.
abbrev pub failure_pieces : Month → List Piece
failure_pieces m = map (λ a. piece a None (unsold m a)) m.accounts

-- The buyers' line: what each account buys.
abbrev pub buyers : (ℕ → ℕ) → List ℕ → List Part
buyers f accounts = map (λ a. part a (f a)) accounts

-- What is left of the buyers' line behind its first n lots; an account keeps its place when its lots are gone.
abbrev pub behind : ℕ → List Part → List Part
behind n [] = []
behind n (b ∷ bs) = part b.account (b.lots - n) ∷ behind (n - b.lots) bs

-- The leg of a piece and a buyer; none without lots.
abbrev pub leg_row : Piece → ℕ → ℕ → List Row
leg_row p buyer n = cond (n == 0) [] (Leg p.seller buyer n p.bond ∷ [])

-- The legs of n lots of a piece, laid against the buyers' line: its overlap with each buyer.
abbrev pub piece_legs : Piece → ℕ → List Part → List Row
piece_legs p n [] = []
piece_legs p n (b ∷ bs) = leg_row p b.account (min n b.lots) ++ piece_legs p (n - b.lots) bs

-- The legs of a sellers' line laid against a buyers' line.
abbrev pub legs : List Piece → List Part → List Row
legs [] bs = []
legs (p ∷ ps) bs = piece_legs p p.lots bs ++ legs ps (behind p.lots bs)

-- The legs of the first list, each with a bond.
abbrev pub delivery_legs : Month → Selection → List Row
delivery_legs m sel = legs (delivery_pieces m) (buyers (taken_from m sel) m.accounts)

-- The legs of the second list, none with a bond.
abbrev pub failure_legs : Month → Selection → List Row
failure_legs m sel = legs (failure_pieces m) (buyers (unbought m sel) m.accounts)

-- The legs of a round: deliveries, then failures.
abbrev pub leg_rows : Month → Selection → List Row
leg_rows m sel = delivery_legs m sel ++ failure_legs m sel

-- The rows that closing a round shows: all lots by class, day and account.
abbrev pub closing_rows : Month → List Row
closing_rows m = selection_rows m (lots_there m)

-- The rows of a round.
abbrev pub round_rows : OddLotRule → Month → List Row
round_rows share m = selection_rows m (chosen share m) ++ leg_rows m (chosen share m)
