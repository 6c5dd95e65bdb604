pub mod Aligned
pub mod Halting
