pub mod Writing
pub mod Spelling
pub mod Pieces
pub mod Steps
pub mod Sizing
pub mod Cases
