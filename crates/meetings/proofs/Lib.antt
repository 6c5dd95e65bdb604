pub mod Pairs
pub mod SlotScopes
pub mod Meets
pub mod Listing
pub mod Walks
pub mod Sending
