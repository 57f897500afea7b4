-- The two lists of pairs that a draw's legs tell, and what holds of such a list. Assumes nothing.
use Rattle.std.specs.Prelude.{◌≡◌, ℕ, ◌+◌, ◌-◌, ◌<◌, cond, ◌&&◌, List, [], ◌∷◌, length, Some, None, fold, sum_by, count_by, ◌==◌, nat_lt}
use Rattle.terms.specs.Lots.{lots_in}
use Rattle.terms.specs.Month.{Month, final, effective_sale}
use Rattle.terms.specs.Selection.{Selection, taken_from}
use Rattle.terms.specs.declared.rows.Row.{Row}
use Rattle.terms.specs.declared.rows.Row.TheVariants.{ClassLots, Leg, Refused}

-- Lots that a seller and a buyer are brought together for.
pub record Pair : Type 0 where
  pub seller : ℕ
  pub buyer : ℕ
  pub lots : ℕ

-- A pair, from its seller, buyer and lots.
abbrev pub pair : ℕ → ℕ → ℕ → Pair
pair s b n = record { seller = s; buyer = b; lots = n }

-- One more leg of a seller and a buyer: it joins their pair, or is a new one.
abbrev pub with_leg : ℕ → ℕ → ℕ → List Pair → List Pair
with_leg s b n [] = pair s b n ∷ []
with_leg s b n (p ∷ ps) = cond (p.seller == s && p.buyer == b) (pair s b (p.lots + n) ∷ ps) (p ∷ with_leg s b n ps)

-- The first list: the legs with a bond, those of one seller and one buyer being one pair.
abbrev pub with_row : List Pair → Row → List Pair
with_row ps (ClassLots class account day lots) = ps
with_row ps (Leg s b n (Some bond)) = with_leg s b n ps
with_row ps (Leg s b n None) = ps
with_row ps (Refused number) = ps

-- The first list of the rows of a draw.
abbrev pub delivery_pairs : List Row → List Pair
delivery_pairs rows = fold with_row [] rows

-- The second list: each leg without a bond is a failure pair.
abbrev pub failure_pairs : List Row → List Pair
failure_pairs [] = []
failure_pairs (ClassLots class account day lots ∷ rows) = failure_pairs rows
failure_pairs (Leg s b n (Some bond) ∷ rows) = failure_pairs rows
failure_pairs (Leg s b n None ∷ rows) = pair s b n ∷ failure_pairs rows
failure_pairs (Refused number ∷ rows) = failure_pairs rows

-- What an account sells in a list of pairs.
abbrev pub sold_in : List Pair → ℕ → ℕ
sold_in ps a = sum_by (λ (p : Pair). cond (p.seller == a) p.lots 0) ps

-- What an account buys in a list of pairs.
abbrev pub bought_in : List Pair → ℕ → ℕ
bought_in ps a = sum_by (λ (p : Pair). cond (p.buyer == a) p.lots 0) ps

-- A list of pairs between what the accounts have to sell and to buy there.
pub record Pairing (accounts : List ℕ) (to_sell to_buy : ℕ → ℕ) (ps : List Pair) : Type 0 where
  -- the pairs of an account, as seller or as buyer, add up to its lots there
  pub sold : (a : ℕ) → sold_in ps a ≡ to_sell a
  pub bought : (a : ℕ) → bought_in ps a ≡ to_buy a
  -- if the list holds a lot, its pairs are fewer than the accounts with lots there
  pub few : 0 < sum_by (λ (p : Pair). p.lots) ps → length ps < count_by (λ a. nat_lt 0 (to_sell a + to_buy a)) accounts

-- The lots of the second list: in the final round all that the first list leaves, and else none.
abbrev pub unsold : Month → ℕ → ℕ
unsold m a = cond (final m) ((m.positions a).short - effective_sale m a) 0

-- The long lots of the second list.
abbrev pub unbought : Month → Selection → ℕ → ℕ
unbought m sel a = cond (final m) (lots_in (m.positions a).long - taken_from m sel a) 0

-- A draw's two lists: the sellers' effective lots with the buyers' selected ones, and the failure pairs.
pub record Paired (m : Month) (sel : Selection) (rows : List Row) : Type 0 where
  pub deliveries : Pairing m.accounts (effective_sale m) (taken_from m sel) (delivery_pairs rows)
  pub failures : Pairing m.accounts (unsold m) (unbought m sel) (failure_pairs rows)
