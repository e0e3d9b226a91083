pub mod Packed
pub mod Laying
pub mod Squeezed
pub mod Ranked
pub mod Standing
pub mod Placed
pub mod Gathered
