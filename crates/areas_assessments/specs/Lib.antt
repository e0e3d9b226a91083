pub mod Stored
pub mod Holding
pub mod Visits
pub mod Recording
