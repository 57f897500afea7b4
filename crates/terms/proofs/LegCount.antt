-- A round has few legs. Assumes nothing.
use Rattle.std.proofs.Common.{◌≡◌, ℕ, ◌+◌, ◌-◌, ◌*◌, ◌<◌, ◌≤◌, min, ltb, List, [], ◌∷◌, length, Some, None, count_by, refl, arith, length-append}
use Rattle.std.proofs.lemmas.List.Sums.{sum_by-cons, sum_by-append, count_by-le-length, sum_by-le-sum_by}
use Rattle.std.proofs.lemmas.Bool.Decides.{nat_tests}
use Rattle.terms.specs.Lots.{lots_in}
use Rattle.terms.specs.Month.{Month, effective_sale, declared_bonds}
use Rattle.terms.specs.Selection.{Selection, taken_from}
use Rattle.terms.specs.Lines.{Part, part}
use Rattle.terms.specs.Pairs.{unsold, unbought}
use Rattle.terms.specs.Rounds.{Piece, piece, bond_pieces, delivery_pieces, failure_pieces, buyers, legs, delivery_legs, failure_legs, leg_rows}
use Rattle.terms.specs.Facts.{Sound, SoundSides}
use Rattle.terms.specs.declared.calls.BondLots.{BondLots}
use Rattle.terms.proofs.Lines.{count_sides}
use Rattle.terms.proofs.Behind.{some, some_more, full_pieces, full_parts, legs_none, legs_few}
use Rattle.terms.proofs.Deliveries.{map_sum}
use Rattle.terms.proofs.Joined.{bonded}

-- a seller without lots has no piece with lots, and else at most one for each bond
bonds_none : (s n : ℕ) (bonds : List BondLots) → n ≡ 0 → full_pieces (bond_pieces s n bonds) ≡ 0
bonds_none s n [] e = refl
bonds_none s n (b ∷ bonds) e =
    grind (
      arith,
      nat_tests,
      sum_by-cons (λ (p : Piece). some p.lots) (piece s (Some b.bond) (min n b.lots)) (bond_pieces s (n - b.lots) bonds),
      bonds_none s (n - b.lots) bonds,
    )

bonds_each : (s n : ℕ) (bonds : List BondLots) → full_pieces (bond_pieces s n bonds) ≤ length bonds
bonds_each s n [] = omega arith
bonds_each s n (b ∷ bonds) =
    grind (
      arith,
      nat_tests,
      sum_by-cons (λ (p : Piece). some p.lots) (piece s (Some b.bond) (min n b.lots)) (bond_pieces s (n - b.lots) bonds),
      bonds_each s (n - b.lots) bonds,
    )

pieces_full : (f h : ℕ → ℕ) (bonds : ℕ → List BondLots) → ((a : ℕ) → f a ≤ h a) → ((a : ℕ) → length (bonds a) ≤ 4) → (xs : List ℕ) →
    full_pieces (bonded f bonds xs) ≤ 4 * count_by (λ a. ltb 0 (h a)) xs
pieces_full f h bonds within four [] = omega arith
pieces_full f h bonds within four (x ∷ xs) =
    grind (
      arith,
      nat_tests,
      sum_by-append (λ (p : Piece). some p.lots) (bond_pieces x (f x) (bonds x)) (bonded f bonds xs),
      sum_by-cons (λ a. some (h a)) x xs,
      pieces_full f h bonds within four xs,
      within x,
      four x,
      bonds_none x (f x) (bonds x),
      bonds_each x (f x) (bonds x),
    )

-- legs between at most s pieces and b buyers with lots
legs_within : (ps : List Piece) (bs : List Part) (s b : ℕ) → full_pieces ps ≤ s → full_parts bs ≤ b → 0 < b → length (legs ps bs) < s + b
legs_within ps bs s b p q l = grind (arith, legs_few ps bs, legs_none ps bs)

-- A round has at most 1,275 legs.
pub few_legs_of : (m : Month) (sel : Selection) → Sound m → SoundSides m → ((a : ℕ) → taken_from m sel a ≤ lots_in (m.positions a).long) → length (leg_rows m sel) ≤ 1275
few_legs_of m sel sound apart within =
    let s = count_by (λ a. ltb 0 (m.positions a).short) m.accounts in
    let b = count_by (λ a. ltb 0 (lots_in (m.positions a).long)) m.accounts in
    grind (
      arith,
      sound.few,
      count_sides (λ a. (m.positions a).short) (λ a. lots_in (m.positions a).long) m.accounts apart.one_sided,
      count_by-le-length (λ a. ltb 0 ((m.positions a).short + lots_in (m.positions a).long)) m.accounts,
      length-append (delivery_legs m sel) (failure_legs m sel),
      legs_within (delivery_pieces m) (buyers (taken_from m sel) m.accounts) (4 * s) b sold_full bought_full,
      legs_within (failure_pieces m) (buyers (unbought m sel) m.accounts) s b unsold_full unbought_full,
      legs_none (delivery_pieces m) (buyers (taken_from m sel) m.accounts),
      legs_none (failure_pieces m) (buyers (unbought m sel) m.accounts),
      bought_full,
      unbought_full,
    )
  where
    sold_full : full_pieces (delivery_pieces m) ≤ 4 * count_by (λ a. ltb 0 (m.positions a).short) m.accounts
    sold_full = pieces_full (effective_sale m) (λ a. (m.positions a).short) (λ a. declared_bonds (m.declarations a)) (λ a. omega arith) apart.four m.accounts

    parts_full : (g : ℕ → ℕ) → ((a : ℕ) → g a ≤ lots_in (m.positions a).long) →
        full_parts (buyers g m.accounts) ≤ count_by (λ a. ltb 0 (lots_in (m.positions a).long)) m.accounts
    parts_full g h =
        omega (
          arith,
          map_sum (λ (p : Part). some p.lots) (λ x. part x (g x)) m.accounts,
          sum_by-le-sum_by (λ a. some (g a)) (λ a. some (lots_in (m.positions a).long)) m.accounts (λ a. some_more (g a) (lots_in (m.positions a).long) (h a)),
        )

    bought_full : full_parts (buyers (taken_from m sel) m.accounts) ≤ count_by (λ a. ltb 0 (lots_in (m.positions a).long)) m.accounts
    bought_full = parts_full (taken_from m sel) within

    unbought_full : full_parts (buyers (unbought m sel) m.accounts) ≤ count_by (λ a. ltb 0 (lots_in (m.positions a).long)) m.accounts
    unbought_full = parts_full (unbought m sel) (λ a. grind arith)

    unsold_full : full_pieces (failure_pieces m) ≤ count_by (λ a. ltb 0 (m.positions a).short) m.accounts
    unsold_full =
        omega (
          arith,
          map_sum (λ (p : Piece). some p.lots) (λ x. piece x None (unsold m x)) m.accounts,
          sum_by-le-sum_by (λ a. some (unsold m a)) (λ a. some (m.positions a).short) m.accounts
              (λ a. some_more (unsold m a) (m.positions a).short (grind arith)),
        )
