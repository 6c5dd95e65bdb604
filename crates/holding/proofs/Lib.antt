pub mod HeldBack
pub mod Bits
pub mod Passing
pub mod Marking
pub mod Conflicting
pub mod Around
