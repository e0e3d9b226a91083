pub mod Pieces
pub mod Answered
