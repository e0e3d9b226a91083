pub mod Same
pub mod Kinds
