pub mod Firsts
pub mod Limits
pub mod Adding
pub mod Words
pub mod First
