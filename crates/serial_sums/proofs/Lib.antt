pub mod Numbers
pub mod SumSteps
pub mod PartLaws
pub mod Totals
mod Cases
