pub mod Links
pub mod Firsts
