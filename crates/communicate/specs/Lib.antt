pub mod Judging
pub mod Outermost
