pub mod Tables
pub mod Judging
