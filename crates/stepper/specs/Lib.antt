pub mod Replies
pub mod Demand
