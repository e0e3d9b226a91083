mod Picks
mod Powers
pub mod Squares
mod Digits
pub mod Roots
pub mod Values
mod Unique
mod Exact
mod Near
pub mod Quotient
mod Doubling
mod Loop
pub mod Lengths
pub mod Total
pub mod Cases
pub mod BitOrder
