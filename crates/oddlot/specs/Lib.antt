pub mod Facts
pub mod House
pub mod Priorities
pub mod Sharing
pub mod Fair
pub mod Tally
pub mod First
