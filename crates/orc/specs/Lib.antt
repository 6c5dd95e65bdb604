pub mod Expressions
pub mod Scripts
pub mod Translation
pub mod Clauses
pub mod Samples
