pub mod Joint
pub mod Singly
pub mod Listed
pub mod Samples
