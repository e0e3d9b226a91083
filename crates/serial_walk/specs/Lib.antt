pub mod Steps
pub mod Walk
pub mod Slices
pub mod Marks
