pub mod Searching
pub mod Steps
pub mod Meaning
