pub mod Printed
pub mod ChokeList
pub mod Table
