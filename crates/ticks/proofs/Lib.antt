pub mod Clock
pub mod Judging
pub mod Claims
pub mod Unmoved
pub mod Adding
pub mod Theorems
