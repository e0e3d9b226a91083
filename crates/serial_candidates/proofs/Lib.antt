pub mod FirstLaws
pub mod StepLaws
pub mod OwnerLaws
pub mod ToucherLaws
pub mod NextLaws
pub mod CollectLaws
pub mod FoundLaws
pub mod TopLaws
