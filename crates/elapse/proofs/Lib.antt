pub mod Judged
pub mod Walking
pub mod Lapsing
pub mod Listing
