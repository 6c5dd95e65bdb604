pub mod SixBytes
