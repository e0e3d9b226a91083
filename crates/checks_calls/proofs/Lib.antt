pub mod Passing
pub mod SpanParts
pub mod Formed
pub mod Cases
