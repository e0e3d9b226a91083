pub mod Writing
pub mod Reading
pub mod Turns
pub mod Meaning
mod Singly
