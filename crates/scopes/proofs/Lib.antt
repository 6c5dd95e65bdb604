pub mod Slots
pub mod Marks
pub mod Uses
pub mod NextPlace
pub mod Passing
