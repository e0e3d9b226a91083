pub mod Numbers
pub mod Sums
pub mod Totals
pub mod TrueTotal
pub mod Parts
