pub mod Faulty
mod Of000
mod Written
pub mod Blocks
