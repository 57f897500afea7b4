pub mod Bytes
pub mod Fields
pub mod Widths
pub mod Layouts
pub mod Calls
pub mod Rows
