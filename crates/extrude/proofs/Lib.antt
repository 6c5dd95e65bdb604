pub mod Judged
pub mod Raising
