pub mod Shareable
