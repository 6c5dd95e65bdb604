pub mod Marking
pub mod Scopes
pub mod Acts
pub mod Parts
pub mod Binding
pub mod Whole
