pub mod Left
pub mod Judged
pub mod Losing
