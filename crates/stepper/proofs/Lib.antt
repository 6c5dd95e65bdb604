pub mod Moved
pub mod Stepping
pub mod Theorems
