pub mod Holding
pub mod Turns
pub mod Noting
pub mod Living
pub mod ByKind
