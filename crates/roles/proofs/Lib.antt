pub mod Same
pub mod Roles
