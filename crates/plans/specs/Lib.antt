pub mod Plans
pub mod Cutting
