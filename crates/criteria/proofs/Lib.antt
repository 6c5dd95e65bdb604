pub mod Seen
pub mod Fewest
pub mod Meetings
pub mod Solo
pub mod Scopes
pub mod Depths
pub mod Roles
pub mod Theorems
