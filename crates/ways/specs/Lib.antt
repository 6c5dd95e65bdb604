pub mod Known
pub mod TermOf
pub mod Ways
