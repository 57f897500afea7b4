-- Worked figures. Assumes nothing.
use Rattle.std.specs.Prelude.{◌≡◌}
use Rattle.money.specs.Amounts.{accrued, cost, seller_difference, buyer_difference, performance, passed_on}

-- A bond with rate 2.85 percent, two coupons a year, 61 of 184 days gone and factor 1.0234, at price 101.25 and valuation 104.
pub record WorkedFigures : Type 0 where
  pub interest : accrued 28500 2 61 184 ≡ 47241848
  pub four_lots : cost 4 1012500 10234 47241848 ≡ 4163666739
  pub failed_seller : seller_difference 2 1012500 10234 1040000 ≡ 7615000
  pub failed_buyer : buyer_difference 2 1012500 10234 1040000 ≡ 0
  pub performance_sum : performance 2 1012500 200 ≡ 40500000
  pub half_of_it : passed_on 40500000 5000 ≡ 20250000
