pub mod Ticks
pub mod Claims
pub mod Unmoved
pub mod Readings
pub mod Samples
