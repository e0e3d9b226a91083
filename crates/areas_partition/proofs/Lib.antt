pub mod Labelling
pub mod Parting
