pub mod Meetings
pub mod Reaching
pub mod Surveys
