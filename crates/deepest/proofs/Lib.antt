pub mod Heights
pub mod Shallow
pub mod Telling
pub mod Casting
