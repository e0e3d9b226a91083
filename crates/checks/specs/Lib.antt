pub mod Numbers
pub mod Checks
pub mod First
pub mod Faults
pub mod Single
pub mod Verdict
pub mod Passed
