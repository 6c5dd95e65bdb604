pub mod Deepest
