pub mod Records
pub mod Format
pub mod Scripts
pub mod Clauses
pub mod Formed
pub mod Bounds
pub mod Theorems
