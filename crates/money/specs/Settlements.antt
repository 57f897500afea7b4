-- The settlement of a leg, by who failed. Assumes nothing.
use Rattle.std.specs.Prelude.{◌≡◌, ℕ, ◌+◌, ◌-◌, ◌^◌, ◌≤◌}
use Rattle.money.specs.Amounts.{cost, seller_difference, buyer_difference, performance, passed_on}
use Rattle.money.specs.declared.settlements.Failed.{Failed}
use Rattle.money.specs.declared.settlements.Failed.TheVariants.{Nobody, Seller, Buyer, Both}
use Rattle.money.specs.declared.amounts.Terms.{Terms}
use Rattle.money.specs.declared.amounts.Delivered.{Delivered}
use Rattle.money.specs.declared.amounts.Unfinished.{Unfinished}
use Rattle.money.specs.declared.settlements.Payments.{Payments}
use Rattle.money.specs.declared.settlements.Settlement.{Settlement}

-- The performance sum that a side owes, what it pays in all, and what it receives.
abbrev pub payments : ℕ → ℕ → ℕ → Payments
payments sum pays receives = record { performance = sum; pays = pays; receives = receives }

-- All delivered and paid: the buyer pays the cost k to the seller.
abbrev pub all_done : ℕ → Settlement
all_done k = record { cost = k; difference = 0; share = 0; seller = payments 0 0 k; buyer = payments 0 k 0; kept = 0 }

-- The seller failed: it pays the difference e to the buyer, and the performance sum s, of which the buyer gets h and the house keeps the rest.
abbrev pub seller_failed : ℕ → ℕ → ℕ → ℕ → Settlement
seller_failed k e s h = record { cost = k; difference = e; share = h; seller = payments s (e + s) k; buyer = payments 0 k (e + h); kept = s - h }

-- The buyer failed: the same the other way round.
abbrev pub buyer_failed : ℕ → ℕ → ℕ → ℕ → Settlement
buyer_failed k e s h = record { cost = k; difference = e; share = h; seller = payments 0 0 (k + e + h); buyer = payments s (k + e + s) 0; kept = s - h }

-- Both failed: each pays its performance sum s, and the house keeps both; there is no difference and no share.
abbrev pub both_failed : ℕ → ℕ → Settlement
both_failed k s = record { cost = k; difference = 0; share = 0; seller = payments s s k; buyer = payments s (k + s) 0; kept = s + s }

-- What the delivered lots cost.
abbrev pub cost_of : Terms → Delivered → ℕ
cost_of t d = cost d.lots t.price d.factor d.interest

-- The performance sum for the unfinished lots.
abbrev pub sum_of : Terms → Unfinished → ℕ
sum_of t u = performance u.lots t.price t.ratio

-- Its part that goes to the other side.
abbrev pub share_of : Terms → Unfinished → ℕ
share_of t u = passed_on (sum_of t u) t.share

-- The difference that a failed seller pays for the unfinished lots.
abbrev pub seller_owes : Terms → Unfinished → ℕ
seller_owes t u = seller_difference u.lots t.price u.factor u.valuation

-- The difference that a failed buyer pays for them.
abbrev pub buyer_owes : Terms → Unfinished → ℕ
buyer_owes t u = buyer_difference u.lots t.price u.factor u.valuation

-- A cost, a difference and a performance sum are at most 10^16 fen each, and a share is at most its performance sum.
pub record Small (t : Terms) (d : Delivered) (u : Unfinished) : Type 0 where
  pub cost : cost_of t d ≤ 10 ^ 16
  pub seller : seller_owes t u ≤ 10 ^ 16
  pub buyer : buyer_owes t u ≤ 10 ^ 16
  pub sum : sum_of t u ≤ 10 ^ 16
  pub share : share_of t u ≤ sum_of t u

-- The settlement of a leg, by who failed.
abbrev pub settled : Failed → Terms → Delivered → Unfinished → Settlement
settled Nobody t d u = all_done (cost_of t d)
settled Seller t d u = seller_failed (cost_of t d) (seller_owes t u) (sum_of t u) (share_of t u)
settled Buyer t d u = buyer_failed (cost_of t d) (buyer_owes t u) (sum_of t u) (share_of t u)
settled Both t d u = both_failed (cost_of t d) (sum_of t u)

-- What the two sides pay is what they receive and what the house keeps.
abbrev pub Balanced : Settlement → Type 0
Balanced s = s.seller.pays + s.buyer.pays ≡ s.seller.receives + s.buyer.receives + s.kept
