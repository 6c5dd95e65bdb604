pub mod Bounds
pub mod Entries
