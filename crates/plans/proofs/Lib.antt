pub mod Planning
pub mod Joining
pub mod Continuing
pub mod Mapped
