pub mod Planned
pub mod Gathers
pub mod Scopes
pub mod Fires
pub mod Joins
pub mod Claims
pub mod Theorems
