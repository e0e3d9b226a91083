pub mod Writing
pub mod Probe
pub mod Records
pub mod Parting
pub mod Planning
pub mod Regions
pub mod Links
pub mod Lengths
