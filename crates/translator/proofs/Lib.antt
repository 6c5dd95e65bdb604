pub mod Judging
pub mod Writing
pub mod Claims
