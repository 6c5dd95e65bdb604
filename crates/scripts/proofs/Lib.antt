pub mod Rows
pub mod First
pub mod Standing
