pub mod Mapped
pub mod Names
pub mod Bound
