pub mod Orders
pub mod Sorting
pub mod Keys
pub mod Lists
pub mod Pairs
pub mod Shuffled
pub mod Merge
pub mod Tests
