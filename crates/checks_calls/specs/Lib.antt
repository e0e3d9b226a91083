pub mod Refusals
pub mod SpanEnds
pub mod Cases
