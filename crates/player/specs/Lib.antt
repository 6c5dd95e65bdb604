pub mod Loads
pub mod Turns
pub mod Making
pub mod Cutting
pub mod Nights
pub mod Demand
