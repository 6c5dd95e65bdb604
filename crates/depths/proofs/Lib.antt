pub mod Deep
pub mod Searches
pub mod TooDeep
