pub mod Killing
pub mod Losses
