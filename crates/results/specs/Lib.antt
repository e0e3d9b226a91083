pub mod Rules
pub mod AcceptedGroups
pub mod Results
pub mod Returns
pub mod Calls
pub mod Cases
