pub mod Matches
pub mod Parties
pub mod Slots
