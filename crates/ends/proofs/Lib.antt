pub mod Rungs
pub mod Opened
