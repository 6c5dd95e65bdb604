pub mod Supply
pub mod Steps
pub mod Asks
pub mod Gives
