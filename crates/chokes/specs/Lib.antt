pub mod Demand
pub mod Marking
pub mod WorkLeft
pub mod DemandOne
pub mod DemandTwo
pub mod Answers
pub mod Instance
pub mod Carding
