pub mod Roles
pub mod Played
