pub mod Judging
pub mod Passing
