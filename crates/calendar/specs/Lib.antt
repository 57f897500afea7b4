pub mod Days
pub mod Layers
