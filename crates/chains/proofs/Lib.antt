pub mod Chaining
pub mod Finding
