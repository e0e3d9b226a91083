pub mod SingleMarks
pub mod Renamed
pub mod Spare
