pub mod Overlapping
