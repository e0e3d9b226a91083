pub mod Dues
pub mod Forests
pub mod Joining
pub mod Numbered
pub mod PartitionAreas
