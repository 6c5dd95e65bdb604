pub mod Listing
pub mod Claims
