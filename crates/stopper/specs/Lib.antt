pub mod Gathering
pub mod Firing
pub mod Claims
