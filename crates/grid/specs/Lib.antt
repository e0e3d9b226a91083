pub mod Cells
pub mod Directions
pub mod Steps
pub mod Eight
pub mod Index
