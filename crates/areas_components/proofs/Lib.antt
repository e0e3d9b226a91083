mod WordLaws
mod ForestLaws
mod FindLaws
mod JoinLaws
mod StepLaws
mod EdgeLaws
pub mod DueLaws
mod DueBytes
mod RunLaws
mod NumberLaws
mod MapLaws
mod CountLaws
pub mod LabelWords
pub mod PartitionAreas
