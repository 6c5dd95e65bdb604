pub mod Extruding
