pub mod Lent
pub mod Names
pub mod Small
pub mod Unmarked
