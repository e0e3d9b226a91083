pub mod Printing
pub mod Reading
pub mod Corridor
pub mod Table
