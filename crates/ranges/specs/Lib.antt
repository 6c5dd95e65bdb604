pub mod Lists
pub mod Ranges
