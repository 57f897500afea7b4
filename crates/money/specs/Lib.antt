pub mod Amounts
pub mod Coupons
pub mod Examples
pub mod Periods
pub mod Settlements
