pub mod Bridging
pub mod Plans
