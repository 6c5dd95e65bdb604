pub mod Continued
pub mod Left
pub mod Judged
pub mod Taking
pub mod Replacing
pub mod Outside
pub mod Written
