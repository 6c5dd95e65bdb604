pub mod Matching
pub mod Taking
