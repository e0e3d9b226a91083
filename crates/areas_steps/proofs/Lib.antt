pub mod Bits
pub mod Halves
pub mod Filled
pub mod Listed
