pub mod Sizes
pub mod Measures
