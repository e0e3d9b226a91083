pub mod Writing
pub mod Reading
pub mod Bounds
pub mod Turns
