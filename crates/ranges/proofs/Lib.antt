pub mod Lists
pub mod FieldRanges
pub mod Gathering
pub mod Gaps
