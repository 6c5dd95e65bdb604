pub mod Across
pub mod Mapped
pub mod Occurring
pub mod Fresh
pub mod Choosing
pub mod Copies
pub mod Bound
