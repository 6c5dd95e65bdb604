pub mod Listing
pub mod Opening
pub mod Claims
pub mod Writing
pub mod Arrays
