pub mod Root
pub mod Nearest
pub mod Length
pub mod Floats
pub mod Total
pub mod Cases
