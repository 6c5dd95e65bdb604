pub mod Aligned
pub mod Children
pub mod HaltSteps
pub mod Asides
pub mod Firing
