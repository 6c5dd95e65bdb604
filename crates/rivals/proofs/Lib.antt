pub mod Lowering
pub mod Counted
