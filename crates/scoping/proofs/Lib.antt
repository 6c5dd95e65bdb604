pub mod InScope
pub mod Scoping
