pub mod Block
pub mod Admitted
