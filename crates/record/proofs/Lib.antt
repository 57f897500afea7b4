pub mod Numbers
pub mod Parts
pub mod Widths
pub mod Reading
pub mod Clear
pub mod Blank
pub mod CallTrip
pub mod RowTrip
