mod RecordLaws
pub mod WritingLaws
pub mod PartingLaws
pub mod PlanningLaws
pub mod RegionLaws
pub mod LinkLaws
pub mod LengthLaws
mod BlockLaws
