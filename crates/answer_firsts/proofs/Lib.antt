pub mod Walks
pub mod Grows
pub mod Firsts
