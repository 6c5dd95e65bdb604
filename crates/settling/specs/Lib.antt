pub mod Settling
pub mod Searching
