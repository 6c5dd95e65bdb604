mod Output
mod Reading
