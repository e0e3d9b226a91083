pub mod Runs
pub mod Room
