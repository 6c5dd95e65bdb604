pub mod Checks
pub mod Tested
