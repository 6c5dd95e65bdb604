pub mod Frames
pub mod KnownTables
pub mod Starts
pub mod Seeking
pub mod Once
pub mod Parts
pub mod Descending
