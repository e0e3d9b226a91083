pub mod Fills
pub mod Goings
pub mod Weights
pub mod Owns
pub mod Sights
pub mod Kepts
pub mod Answered
