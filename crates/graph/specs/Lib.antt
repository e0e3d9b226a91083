pub mod Path
pub mod Parts
pub mod Labelling
pub mod Labels
pub mod Records
pub mod Bridges
pub mod Cases
pub mod Slices
