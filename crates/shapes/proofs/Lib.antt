pub mod Picking
pub mod Stacks
pub mod Backwards
pub mod Passing
