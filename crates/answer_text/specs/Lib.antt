pub mod Digits
pub mod Lines
pub mod Answer
pub mod Corridor
