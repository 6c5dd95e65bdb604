pub mod Atoms
pub mod Ends
pub mod Holds
pub mod Rewrites
pub mod Answers
