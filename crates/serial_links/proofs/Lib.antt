pub mod Constants
pub mod Distances
pub mod Cells
mod Cases
mod Slanted
pub mod Numbers
pub mod Marks
mod Squares
mod Alike
mod Measures
mod Flags
mod Widths
mod Spans
