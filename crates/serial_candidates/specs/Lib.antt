pub mod Owners
pub mod Touchers
pub mod Linkable
pub mod Next
pub mod Gives
pub mod Found
pub mod Top
